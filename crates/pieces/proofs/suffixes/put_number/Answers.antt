use native.Mathlib.Omega.{arith}
use lib.ListN.{length-set}
use Rattle.pieces.proofs.SuffixTexts.{put_one, put_two, put_three}
use Rattle.pieces.proofs.suffixes.put_number.Goals as goal

pub returns-then-k-lt10 : goal.returns-then-k-lt10
returns-then-k-lt10 c = put_one _ _ _ (omega arith) (omega arith) _ c.digit.ensures

pub bounds-out-at-then-k-lt100-2 : goal.bounds-out-at-then-k-lt100-2
bounds-out-at-then-k-lt100-2 c = simp length-set (omega arith)

pub returns-then-k-lt100 : goal.returns-then-k-lt100
returns-then-k-lt100 c = put_two _ _ _ (omega arith) (omega arith) (omega arith) _ _ c.digit-then-k-lt100.ensures c.digit-then-k-lt100-2.ensures

pub bounds-out-at-3 : goal.bounds-out-at-3
bounds-out-at-3 c = simp length-set (omega arith)

pub bounds-out-at-4 : goal.bounds-out-at-4
bounds-out-at-4 c = simp
    length-set (omega arith)

pub returns : goal.returns
returns c = put_three _ _ _ (omega arith) (omega arith) (omega arith) _ _ _ c.digit-2.ensures c.digit-3.ensures c.digit-4.ensures
