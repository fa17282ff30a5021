use mathlib.Core.Path.{◌≡◌}
use Prim.Native.Nat.{◌+◌, ◌≤◌, max}
use lib.ListN.{length, drop}
use Rattle.chars.specs.Bytes.{member}
use Rattle.chars.specs.Lists.{first_not}
use Rattle.names.proofs.members.past_members.Given as goal

abbrev pub invariant-loop-i : goal.invariant-loop-i
invariant-loop-i l = (l.i ≤ max l.from (length l.s)) × (l.from + first_not (member l.a) (drop l.from l.s) ≡ l.i + first_not (member l.a) (drop l.i l.s))
