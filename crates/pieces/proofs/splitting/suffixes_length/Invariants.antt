use mathlib.Core.Path.{◌≡◌}
use Prim.Native.Nat.{◌*◌, ◌≤◌}
use Rattle.model.specs.Cutting.{suffix_sum}
use Rattle.pieces.proofs.splitting.suffixes_length.Given as goal

abbrev pub invariant-loop-k : goal.invariant-loop-k
invariant-loop-k l = (l.k ≤ l.n) × (l.sum ≤ 17 * l.k) × (l.sum ≡ suffix_sum l.n l.k)
