use mathlib.Core.Path.{◌≡◌}
use Prim.Native.Nat.{◌+◌, ◌-◌}
use lib.ListN.{length, drop}
use Rattle.markup.specs.Marks.{dashes}
use Rattle.markup.specs.Walks.{Reached}
use Rattle.markup.proofs.comments.dashes_at.Given as goal

abbrev pub invariant-loop-at : goal.invariant-loop-at
invariant-loop-at l = Reached l.s l.at l.i × (l.at + dashes (drop l.at l.s) ≡ l.i + dashes (drop l.i l.s))

abbrev pub decreases-loop-at : goal.decreases-loop-at
decreases-loop-at l = length l.s - l.i
