use native.Mathlib.Omega.{arith}
use Rattle.pieces.proofs.SuffixTexts.{suffix_last, suffix_other}
use Rattle.pieces.proofs.suffixes.suffix_length.Goals as goal

pub returns-then-last : goal.returns-then-last
returns-then-last c = rw c.if-last.true (suffix_last _ _ c.digit_count-n.ensures.0, omega arith)

pub returns : goal.returns
returns c = rw c.if-last.false (suffix_other _ _ c.digit_count-n.ensures.0, omega arith)
