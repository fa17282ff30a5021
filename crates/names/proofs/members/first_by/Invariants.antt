use mathlib.Core.Path.{◌≡◌}
use Prim.Native.Nat.{◌+◌, ◌≤◌}
use lib.ListN.{length, drop}
use Rattle.chars.specs.Bytes.{member}
use Rattle.chars.specs.Lists.{first_passing}
use Rattle.names.proofs.members.first_by.Given as goal

abbrev pub invariant-loop-i : goal.invariant-loop-i
invariant-loop-i l = (l.i ≤ length l.s) × (first_passing (member l.a) l.s ≡ l.i + first_passing (member l.a) (drop l.i l.s))
