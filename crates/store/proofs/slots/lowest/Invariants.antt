use Rattle.store.proofs.Scanning.{Scanned}
use Rattle.store.proofs.slots.lowest.Given as goal

abbrev pub invariant-loop-i : goal.invariant-loop-i
invariant-loop-i l = Scanned l.pkg l.n l.c l.i l.r l.least
