use Rattle.parts.specs.Copies.{Measuring}
use Rattle.parts.proofs.reading.content_length.Given as goal

abbrev pub invariant-loop-i : goal.invariant-loop-i
invariant-loop-i l = Measuring l.pkg l.from l.to l.i l.n
