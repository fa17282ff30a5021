use native.Mathlib.Omega.{arith}
use Rattle.base.proofs.Blocks.{mid_splice}
use Rattle.base.proofs.moves.copy_in.Goals as goal

pub returns : goal.returns
returns c = mid_splice _ _ _ _ _ c.copy_from_slice.ensures.after (omega arith)
