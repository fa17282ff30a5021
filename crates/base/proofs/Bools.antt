-- Tests taken apart.
-- Assumes nothing.
use Prim.Native.Nat.{ℕ}
use mathlib.Core.Path.{◌≡◌, refl, sym, ◌∙◌}
use mathlib.Core.Bool.{Bool, true, false, ◌&&◌, ◌||◌, false≢true, true≢false}
use mathlib.Core.Logic.{◌⊎◌, inl, inr}
use lib.Dec.{eqb}
use borrow.Author.Tests.{eqb-true, eq-eqb}

pub and_left : (a b : Bool) → (a && b) ≡ true → a ≡ true
and_left true b e = refl
and_left false b e = e

pub and_right : (a b : Bool) → (a && b) ≡ true → b ≡ true
and_right true b e = e
and_right false b e = absurd (false≢true e)

pub and_both : (a b : Bool) → (a && b) ≡ true → (a ≡ true) × (b ≡ true)
and_both a b e = (and_left a b e, and_right a b e)

pub and_true : (a b : Bool) → a ≡ true → b ≡ true → (a && b) ≡ true
and_true a b e f = rw (e, f)

-- two numbers that are both as asked, or not both
pub eqb_both : (a i b j : ℕ) → (eqb a i && eqb b j) ≡ true → (a ≡ i) × (b ≡ j)
eqb_both a i b j e = (eqb-true a i (and_left (eqb a i) (eqb b j) e), eqb-true b j (and_right (eqb a i) (eqb b j) e))

pub eqb_not_both : (a i b j : ℕ) → (eqb a i && eqb b j) ≡ false → a ≡ i → b ≡ j → ⊥
eqb_not_both a i b j e f g = true≢false (sym (and_true (eqb a i) (eqb b j) (eq-eqb a i f) (eq-eqb b j g)) ∙ e)

-- one of two fails
pub and_either : (a b : Bool) → (a && b) ≡ false → (a ≡ false) ⊎ (b ≡ false)
and_either true b e = inr e
and_either false b e = inl refl

pub and_false : (b : Bool) → (b && false) ≡ false
and_false true = refl
and_false false = refl

pub and_right_true : (b : Bool) → (b && true) ≡ b
and_right_true true = refl
and_right_true false = refl

pub and_assoc : (a b c : Bool) → (a && b && c) ≡ (a && (b && c))
and_assoc true b c = refl
and_assoc false b c = refl

pub or_right : (a b : Bool) → b ≡ true → (a || b) ≡ true
or_right true b e = refl
or_right false b e = e

pub or_true : (a : Bool) → (a || true) ≡ true
or_true a = or_right a true refl

pub or_false_left : (a b : Bool) → (a || b) ≡ false → a ≡ false
or_false_left true b e = e
or_false_left false b e = refl

pub or_false_right : (a b : Bool) → (a || b) ≡ false → b ≡ false
or_false_right true b e = absurd (true≢false e)
or_false_right false b e = e

-- a test whose failing is absurd passes
pub passing : (a : Bool) → (a ≡ false → ⊥) → a ≡ true
passing true f = refl
passing false f = absurd (f refl)

-- a test whose passing is absurd fails
pub not_passing : (a : Bool) → (a ≡ true → ⊥) → a ≡ false
not_passing true f = absurd (f refl)
not_passing false f = refl
