use native.Mathlib.Omega.{arith}
use Rattle.chars.proofs.Classes.{hex_small}
use Rattle.pack.proofs.Decoding.{first_hex, second_hex, low_is, low_high, low_none}
use Rattle.pack.proofs.pack.low_triplet.Goals as goal

pub overflow_mul-v : goal.overflow_mul-v
overflow_mul-v c =
    let h = first_hex c.args.a c.args.b c.args.c _ _ c.is_hex_digit.ensures
    c.is_hex_digit-2.ensures c.if-a-is_hex_digit.true in
    omega (arith, hex_small c.args.b c.ranges.b.fits h)

pub overflow_add-v : goal.overflow_add-v
overflow_add-v c =
    let h = first_hex c.args.a c.args.b c.args.c _ _ c.is_hex_digit.ensures
    c.is_hex_digit-2.ensures c.if-a-is_hex_digit.true in
    let k = second_hex c.args.a c.args.b c.args.c _ _ c.is_hex_digit.ensures
    c.is_hex_digit-2.ensures c.if-a-is_hex_digit.true in
    omega (arith, hex_small c.args.b c.ranges.b.fits h, hex_small c.args.c c.ranges.c.fits k)

pub returns-then-v-lt128 : goal.returns-then-v-lt128
returns-then-v-lt128 c =
    let args = c.args in
    low_is args.a args.b args.c _ _ c.is_hex_digit.ensures c.is_hex_digit-2.ensures
    c.if-a-is_hex_digit.true _ _ c.hex_value.ensures c.hex_value-then-a-is_hex_digit.ensures c.if-v-lt128.true

pub returns-else-v-lt128 : goal.returns-else-v-lt128
returns-else-v-lt128 c =
    let args = c.args in
    low_high args.a args.b args.c _ _ c.is_hex_digit.ensures c.is_hex_digit-2.ensures
    c.if-a-is_hex_digit.true _ _ c.hex_value.ensures c.hex_value-then-a-is_hex_digit.ensures c.if-v-lt128.false

pub returns-else-a-is_hex_digit : goal.returns-else-a-is_hex_digit
returns-else-a-is_hex_digit c =
    let args = c.args in
    low_none args.a args.b args.c _ _ c.is_hex_digit.ensures c.is_hex_digit-2.ensures
    c.if-a-is_hex_digit.false
