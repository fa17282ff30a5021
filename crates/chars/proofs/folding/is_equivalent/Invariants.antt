use mathlib.Core.Path.{◌≡◌}
use Prim.Native.Nat.{◌≤◌}
use lib.ListN.{length, drop}
use Rattle.chars.specs.Folding.{equivalent}
use Rattle.chars.proofs.folding.is_equivalent.Given as goal

abbrev pub invariant-loop-i : goal.invariant-loop-i
invariant-loop-i l = (l.i ≤ length l.a) × (equivalent l.a l.b ≡ equivalent (drop l.i l.a) (drop l.i l.b))
