use Prim.Native.Nat.{◌≤◌, ◌<◌}
use mathlib.Core.Path.{◌≡◌}
use lib.ListN.{length}
use Rattle.pieces.proofs.MergedRows.{TakenUp}
use Rattle.pieces.proofs.joining.merge.Given as goal

abbrev pub invariant-loop-k : goal.invariant-loop-k
invariant-loop-k l = (0 < l.n → l._k ≤ l.n) × (length l.pkg ≡ length l.initial.pkg) × TakenUp l.initial.pkg l.pkg l.r l._k
