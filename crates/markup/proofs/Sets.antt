-- A byte tested against a few others: the code's tests, from left to right, are those of `one_of`.
-- Assumes nothing.
use Prim.Native.Nat.{ℕ}
use mathlib.Core.Path.{◌≡◌, refl, ap}
use mathlib.Core.Bool.{Bool, true, false, ◌&&◌, ◌||◌}
use lib.Dec.{eqb, leb}
use Rattle.base.proofs.Bools.{or_true}
use Rattle.chars.specs.Bytes.{letter, digit, member}
use Rattle.chars.specs.declared.search.Alphabet.TheVariants.{Id}
use Rattle.markup.specs.Marks.{blank, name_first, quote_mark}

or_two : (a b : Bool) → (a || b) ≡ (a || (b || false))
or_two true b = refl
or_two false true = refl
or_two false false = refl

or_four : (a b c d : Bool) → (((a || b) || c) || d) ≡ (a || (b || (c || (d || false))))
or_four true b c d = refl
or_four false true c d = refl
or_four false false true d = refl
or_four false false false true = refl
or_four false false false false = refl

or_swap : (a b : Bool) → (a || b) ≡ (b || a)
or_swap true true = refl
or_swap true false = refl
or_swap false true = refl
or_swap false false = refl

-- tests from right to left
or_turned : (a b c d e : Bool) → ((((a || b) || c) || d) || e) ≡ ((e || d) || (c || (b || (a || false))))
or_turned a b c d true = or_true (((a || b) || c) || d)
or_turned a b c true false = ap (λ (x : Bool). x || false) (or_true ((a || b) || c))
or_turned a b true false false = ap (λ (x : Bool). (x || false) || false) (or_true (a || b))
or_turned a true false false false = ap (λ (x : Bool). ((x || false) || false) || false) (or_true a)
or_turned true false false false false = refl
or_turned false false false false false = refl

module _ (b : ℕ) where
  pub blank_is : (((eqb b 32 || eqb b 9) || eqb b 13) || eqb b 10) ≡ blank b
  blank_is = or_four (eqb b 32) (eqb b 9) (eqb b 13) (eqb b 10)

  pub quote_mark_is : (eqb b 34 || eqb b 39) ≡ quote_mark b
  quote_mark_is = or_two (eqb b 34) (eqb b 39)

  pub name_first_is : (l : Bool) → l ≡ letter b → (eqb b 95 || l) ≡ name_first b
  name_first_is l e = rw e (or_swap (eqb b 95) (letter b))

  pub name_byte_is : (l : Bool) → l ≡ letter b → ((((eqb b 45 || eqb b 95) || eqb b 46) || (leb 48 b && leb b 57)) || l) ≡ member Id b
  unfolding member digit
  name_byte_is l e = rw e (or_turned (eqb b 45) (eqb b 95) (eqb b 46) (leb 48 b && leb b 57) (letter b))
