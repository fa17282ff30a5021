use Rattle.store.proofs.Lowering.{Lowering}
use Rattle.store.proofs.ends.lower_above.Given as goal

abbrev pub invariant-loop-i : goal.invariant-loop-i
invariant-loop-i l = Lowering l.initial.pkg l.pkg l.i l.c l.k
