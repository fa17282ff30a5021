use Prim.Native.Nat.{◌-◌}
use lib.ListN.{length, drop}
use Rattle.markup.specs.Elements.{between}
use Rattle.markup.specs.Walks.{Reached}
use Rattle.markup.proofs.Gaps.{Came}
use Rattle.markup.proofs.comments.between.Given as goal

abbrev pub invariant-loop-at : goal.invariant-loop-at
invariant-loop-at l = Reached l.s l.at l.i × Came l.s l.i l.text (between l.text (drop l.at l.s))

abbrev pub decreases-loop-at : goal.decreases-loop-at
decreases-loop-at l = length l.s - l.i
