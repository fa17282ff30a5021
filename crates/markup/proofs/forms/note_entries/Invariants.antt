use Prim.Native.Nat.{◌-◌}
use lib.ListN.{length}
use Rattle.markup.proofs.Notings.{Going}
use Rattle.markup.proofs.forms.note_entries.Given as goal

abbrev pub invariant-loop-at : goal.invariant-loop-at
invariant-loop-at l = Going l.kind l.s l.at l.places l.i l.n

abbrev pub decreases-loop-at : goal.decreases-loop-at
decreases-loop-at l = length l.s - l.i
