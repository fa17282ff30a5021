use lib.ListN.{length}
use Rattle.store.proofs.Taking.{Run}
use Rattle.store.proofs.runs.gather_runs.Given as goal

abbrev pub invariant-loop-x : goal.invariant-loop-x
invariant-loop-x l = Run l.initial.pkg l.pkg l.t (length l.t) l.e l.c l.a l.q l.x-index
