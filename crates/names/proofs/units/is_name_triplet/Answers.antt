use Rattle.chars.specs.Characters.{name_triplet}
use mathlib.Core.Path.{◌≡◌, sym, ◌∙◌}
use mathlib.Core.Bool.{true}
use native.Mathlib.Omega.{arith}
use Rattle.chars.specs.Bytes.{hex_digit}
use Rattle.chars.proofs.Classes.{hex_small}
use Rattle.names.proofs.units.is_name_triplet.Goals as goal

pub overflow_mul-v : goal.overflow_mul-v
overflow_mul-v c =
    let e : hex_digit c.args.b ≡ true = sym c.is_hex_digit.ensures ∙ c.if-is_hex_digit.true in
    omega (arith, hex_small c.args.b c.ranges.b.fits e)

pub overflow_add-v : goal.overflow_add-v
overflow_add-v c =
    let e : hex_digit c.args.b ≡ true = sym c.is_hex_digit.ensures ∙ c.if-is_hex_digit.true in
    let f : hex_digit c.args.c ≡ true = sym c.is_hex_digit-then-is_hex_digit.ensures ∙ c.if-is_hex_digit-2.true in
    omega (
      arith,
      hex_small c.args.b c.ranges.b.fits e,
      hex_small c.args.c
          c.ranges.c.fits f,
    )

pub returns-then-is_hex_digit-2 : goal.returns-then-is_hex_digit-2
unfolding name_triplet
returns-then-is_hex_digit-2 c =
    rw (
      c.is_unreserved.ensures,
      c.hex_value-then-is_hex_digit-2.ensures,
      c.hex_value.ensures,
      sym
          c.is_hex_digit.ensures ∙ c.if-is_hex_digit.true,
      sym c.is_hex_digit-then-is_hex_digit.ensures ∙ c.if-is_hex_digit-2.true,
    )

pub returns-else-is_hex_digit-2 : goal.returns-else-is_hex_digit-2
unfolding name_triplet
returns-else-is_hex_digit-2 c = rw (sym c.is_hex_digit.ensures ∙ c.if-is_hex_digit.true, sym c.is_hex_digit-then-is_hex_digit.ensures ∙ c.if-is_hex_digit-2.false)

pub returns-else-is_hex_digit : goal.returns-else-is_hex_digit
unfolding name_triplet
returns-else-is_hex_digit c = rw (sym c.is_hex_digit.ensures ∙ c.if-is_hex_digit.false)
