use Prim.Native.Nat.{◌≤◌}
use mathlib.Core.Path.{◌≡◌}
use lib.ListN.{length, take}
use Rattle.chars.specs.Folding.{fold}
use Rattle.chars.proofs.folded.fold_into.Given as goal

abbrev pub invariant-loop-i : goal.invariant-loop-i
invariant-loop-i l = (l.i ≤ length l.s) × (length l.f ≡ 256) × (take l.i l.f ≡ fold (take l.i l.s))
