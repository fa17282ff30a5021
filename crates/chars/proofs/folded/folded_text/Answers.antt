use native.Mathlib.Omega.{arith}
use Rattle.base.proofs.Blocks.{slice_part}
use Rattle.chars.proofs.folded.folded_text.Goals as goal

pub returns : goal.returns
returns c = slice_part _ _ _ _ (omega arith)
