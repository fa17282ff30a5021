use Prim.Native.Nat.{◌+◌}
use mathlib.Core.Bool.{true, false}
use native.Mathlib.Omega.{arith}
use Rattle.names.specs.Items.{last_text}
use Rattle.pieces.proofs.SuffixTexts.{suffix_last, suffix_other, suffix_written}
use Rattle.pieces.proofs.suffixes.put_suffix.Goals as goal

pub returns-then-last : goal.returns-then-last
returns-then-last c =
    let n = c.digit_count-n in
    let is = n.ensures.0 in
    rw c.if-last.true (
      suffix_written _ _ is _ _ _ _ (last_text true) (14 + n.result) c.copy_in.ensures c.put_number.ensures
          c.copy_in-then-last.ensures (omega arith) (omega arith),
      suffix_last _ _ is,
      omega arith,
    )

pub returns : goal.returns
returns c =
    let n = c.digit_count-n in
    let is = n.ensures.0 in
    rw c.if-last.false (
      suffix_written _ _ is _ _ _ _ (last_text false) (9 + n.result) c.copy_in.ensures c.put_number.ensures
          c.copy_in-2.ensures (omega arith) (omega arith),
      suffix_other _ _ is,
      omega arith,
    )
