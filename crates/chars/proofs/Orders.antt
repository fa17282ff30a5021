-- The order of texts: total, antisymmetric, transitive.
-- Assumes nothing.
use Prim.Native.Nat.{ℕ, ◌≤◌}
use mathlib.Core.Path.{◌≡◌, refl, ap₂, sym}
use mathlib.Core.Bool.{Bool, true, false, cond}
use mathlib.Core.List.{List, [], ◌∷◌}
use native.Mathlib.Omega.{arith}
use lib.Dec.{ltb}
use borrow.Author.Tests.{ltb-true, ltb-false, lt-ltb, le-ltb}
use Rattle.chars.specs.Folding.{order}
use Rattle.std.specs.declared.cmp.Ordering.TheVariants.{Less, Equal, Greater}

pub less_equal : Less ≡ Equal → ⊥
less_equal e = let z : ◌≡◌ {A = ℕ} 0 1 = cc in omega arith

pub less_greater : Less ≡ Greater → ⊥
less_greater e = let z : ◌≡◌ {A = ℕ} 0 1 = cc in omega arith

pub equal_greater : Equal ≡ Greater → ⊥
equal_greater e = let z : ◌≡◌ {A = ℕ} 0 1 = cc in omega arith

pub order_refl : (a : List ℕ) → order a a ≡ Equal
unfolding order
order_refl [] = refl
order_refl (x ∷ a) = rw (le-ltb x x (omega arith)) (order_refl a)

pub order_equal : (a b : List ℕ) → order a b ≡ Equal → a ≡ b
unfolding order
order_equal [] [] e = refl
order_equal [] (y ∷ b) e = absurd (less_equal e)
order_equal (x ∷ a) [] e = absurd (equal_greater (sym e))
order_equal (x ∷ a) (y ∷ b) e = go (ltb x y) refl (ltb y x) refl e (order_equal a b)
  where
    go : (p : Bool) → ltb x y ≡ p → (q : Bool) → ltb y x ≡ q → cond p Less (cond q Greater (order a b)) ≡ Equal → (order a b ≡ Equal → a ≡ b) → (x ∷ a) ≡ (y ∷ b)
    go true e q f h k = absurd (less_equal h)
    go false e true f h k = absurd (equal_greater (sym h))
    go false e false f h k =
        let l : y ≤ x = ltb-false x y e in
        let m : x ≤ y = ltb-false y x f in
        let n : x ≡ y = omega arith in
        ap₂ ◌∷◌ n (k h)

pub order_greater : (a b : List ℕ) → order a b ≡ Greater → order b a ≡ Less
unfolding order
order_greater [] [] e = absurd (equal_greater e)
order_greater [] (y ∷ b) e = absurd (less_greater e)
order_greater (x ∷ a) [] e = refl
order_greater (x ∷ a) (y ∷ b) e = go (ltb x y) (ltb y x) e (order_greater a b)
  where
    go : (p q : Bool) → cond p Less (cond q Greater (order a b)) ≡ Greater → (order a b ≡ Greater → order b a ≡ Less) → cond q Less (cond p Greater (order b a)) ≡ Less
    go true true h k = refl
    go true false h k = absurd (less_greater h)
    go false true h k = refl
    go false false h k = k h

pub order_less : (a b : List ℕ) → order a b ≡ Less → order b a ≡ Greater
unfolding order
order_less [] [] e = absurd (less_equal (sym e))
order_less [] (y ∷ b) e = refl
order_less (x ∷ a) [] e = absurd (less_greater (sym e))
order_less (x ∷ a) (y ∷ b) e = go (ltb x y) refl (ltb y x) refl e (order_less a b)
  where
    go :
        (p : Bool) → ltb x y ≡ p → (q : Bool) → ltb y x ≡ q → cond p Less (cond q Greater (order a b)) ≡ Less → (order a b ≡ Less → order b a ≡ Greater) →
        cond q Less (cond p Greater (order b a)) ≡ Greater
    go true e true f h k = absurd (omega (arith, ltb-true x y e, ltb-true y x f))
    go true e false f h k = refl
    go false e true f h k = absurd (less_greater (sym h))
    go false e false f h k = k h

pub order_trans : (a b c : List ℕ) → order a b ≡ Less → order b c ≡ Less → order a c ≡ Less
unfolding order
order_trans [] [] c h k = k
order_trans [] (y ∷ b) [] h k = absurd (less_greater (sym k))
order_trans [] (y ∷ b) (z ∷ c) h k = refl
order_trans (x ∷ a) [] c h k = absurd (less_greater (sym h))
order_trans (x ∷ a) (y ∷ b) [] h k = absurd (less_greater (sym k))
order_trans (x ∷ a) (y ∷ b) (z ∷ c) h k = go (ltb x y) refl (ltb y x) refl (ltb y z) refl (ltb z y) refl h k (order_trans a b c)
  where
    go :
        (p : Bool) → ltb x y ≡ p → (q : Bool) → ltb y x ≡ q → (r : Bool) → ltb y z ≡ r → (s : Bool) → ltb z y ≡ s →
        cond p Less (cond q Greater (order a b)) ≡ Less → cond r Less (cond s Greater (order b c)) ≡ Less →
        (order a b ≡ Less → order b c ≡ Less → order a c ≡ Less) → cond (ltb x z) Less (cond (ltb z x) Greater (order a c)) ≡ Less
    go true e q f true g s i h k ih = rw (lt-ltb x z (omega (arith, ltb-true x y e, ltb-true y z g)))
    go true e q f false g true i h k ih = absurd (less_greater (sym k))
    go true e q f false g false i h k ih = rw (lt-ltb x z (omega (arith, ltb-true x y e, ltb-false y z g, ltb-false z y i)))
    go false e true f r g s i h k ih = absurd (less_greater (sym h))
    go false e false f true g s i h k ih = rw (lt-ltb x z (omega (arith, ltb-false x y e, ltb-false y x f, ltb-true y z g)))
    go false e false f false g true i h k ih = absurd (less_greater (sym k))
    go false e false f false g false i h k ih =
        rw (
          le-ltb x z (omega (arith, ltb-false x y e, ltb-false y x f, ltb-false y z g, ltb-false z y i)),
          le-ltb z x (omega (arith, ltb-false x y e, ltb-false y x f, ltb-false y z g, ltb-false z y i)),
        )
        (ih h k)
