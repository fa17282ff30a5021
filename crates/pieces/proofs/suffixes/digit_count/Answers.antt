use native.Mathlib.Omega.{arith}
use Rattle.pieces.proofs.SuffixTexts.{length_one, length_two, length_three}
use Rattle.pieces.proofs.suffixes.digit_count.Goals as goal

pub returns-then-k-lt10 : goal.returns-then-k-lt10
returns-then-k-lt10 c = (length_one _ (omega arith), omega arith)

pub returns-then-k-lt100 : goal.returns-then-k-lt100
returns-then-k-lt100 c = (length_two _ (omega arith) (omega arith), omega arith)

pub returns : goal.returns
returns c = (length_three _ (omega arith) (omega arith), omega arith)
