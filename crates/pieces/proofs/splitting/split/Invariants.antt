use Prim.Native.Nat.{◌≤◌}
use Rattle.pieces.proofs.Splits.{Dividing}
use Rattle.pieces.proofs.splitting.split.Given as goal

abbrev pub invariant-loop-k : goal.invariant-loop-k
invariant-loop-k l = (1 ≤ l.k) × (l.k ≤ l.n) × Dividing l.initial.pkg l.pkg l.r l.p l.n l.q l.rest l.k
