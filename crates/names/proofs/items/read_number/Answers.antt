use mathlib.Core.Path.{refl, sym, ◌∙◌}
use native.Mathlib.Omega.{arith}
use Rattle.names.proofs.Digits.{digit_low, digit_high, read_more, read_bad, read_big, read_done}
use Rattle.names.proofs.items.read_number.Goals as goal

pub returns-then-not-is_digit : goal.returns-then-not-is_digit
returns-then-not-is_digit c =
    sym (c.loop-i.invariant.2 ∙ read_bad _ c.loop-i.v c.loop-i.i _ c.loop-i-test.true refl (sym c.is_digit.ensures ∙ c.if-not-is_digit.true))

pub returns-then-v-gt999 : goal.returns-then-v-gt999
returns-then-v-gt999 c =
    sym (c.loop-i.invariant.2 ∙ read_big _ c.loop-i.v c.loop-i.i _ c.loop-i-test.true refl (sym c.is_digit.ensures ∙ c.if-not-is_digit.false) c.if-v-gt999.true)

pub overflow_sub-v : goal.overflow_sub-v
overflow_sub-v c = digit_low _ (sym c.is_digit.ensures ∙ c.if-not-is_digit.false)

pub loop-i-preserved : goal.loop-i-preserved
loop-i-preserved c =
    let d = sym c.is_digit.ensures ∙ c.if-not-is_digit.false in (
      omega arith,
      omega (arith, digit_high _ d),
      c.loop-i.invariant.2 ∙ read_more _ c.loop-i.v c.loop-i.i _ c.loop-i-test.true refl d,
    )

pub returns : goal.returns
returns c = sym (c.loop-i.invariant.2 ∙ read_done _ _ _ c.loop-i-test.false c.loop-i.invariant.1)
