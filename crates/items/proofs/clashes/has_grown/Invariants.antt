use Rattle.items.specs.Clashes.{GrownFrom}
use Rattle.items.proofs.clashes.has_grown.Given as goal

abbrev pub invariant-loop-i : goal.invariant-loop-i
invariant-loop-i l = GrownFrom l.pkg l.n l.p l.i
