use Rattle.reading.proofs.judging.note_typed.Goals as goal

pub returns : goal.returns
returns c = record { taken = c.is_held-taken.result; sought = c.is_held-taken.ensures; noted = c.note.ensures }
