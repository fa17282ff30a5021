-- Where a byte last stands, in texts put together and cut.
-- Assumes nothing.
use Prim.Native.Nat.{ℕ, ◌+◌, suc, zero}
use mathlib.Core.Path.{ap, ◌≡◌, ◌∙◌, refl, sym}
use mathlib.Core.Bool.{Bool, true, false}
use mathlib.Core.List.{List, ◌++◌, [], ◌∷◌}
use native.Mathlib.Omega.{arith}
use lib.Dec.{eqb}
use lib.ListN.{length, take, drop}
use borrow.Author.Tests.{eqb-true}
use Rattle.chars.specs.Lists.{after_last, after_first}

module _ (b : ℕ) where
  pub last_append_none : (u t : List ℕ) → after_last b t ≡ 0 → after_last b (u ++ t) ≡ after_last b u
  unfolding after_last
  last_append_none [] t e = e
  last_append_none (x ∷ u) t e = ap (after_first (eqb x b)) (last_append_none u t e)

  pub last_append_some : (u t : List ℕ) (k : ℕ) → after_last b t ≡ suc k → after_last b (u ++ t) ≡ length u + suc k
  unfolding after_last
  last_append_some [] t k e = e ∙ (let f : suc k ≡ 0 + suc k = omega arith in f)
  last_append_some (x ∷ u) t k e =
      let f : after_last b (u ++ t) ≡ suc (length u + k) = last_append_some u t k e ∙ (let g : length u + suc k ≡ suc (length u + k) = omega arith in g) in
      ap (after_first (eqb x b)) f ∙ (let h : suc (suc (length u + k)) ≡ suc (length u) + suc k = omega arith in h)

  -- what stands up to there, and after it
  pub last_take : (s : List ℕ) → after_last b (take (after_last b s) s) ≡ after_last b s
  unfolding after_last
  last_take [] = refl
  last_take (x ∷ s) = go (after_last b s) (eqb x b) refl (last_take s)
    where
      go : (n : ℕ) (q : Bool) → eqb x b ≡ q → after_last b (take n s) ≡ n → after_last b (take (after_first q n) (x ∷ s)) ≡ after_first q n
      go zero true e f = rw e
      go zero false e f = refl
      go (suc n) q e f = rw f

  pub last_drop : (s : List ℕ) → after_last b (drop (after_last b s) s) ≡ 0
  unfolding after_last
  last_drop [] = refl
  last_drop (x ∷ s) = go (after_last b s) (eqb x b) refl refl (last_drop s)
    where
      go : (n : ℕ) (q : Bool) → eqb x b ≡ q → after_last b s ≡ n → after_last b (drop n s) ≡ 0 → after_last b (drop (after_first q n) (x ∷ s)) ≡ 0
      go zero true e g f = g
      go zero false e g f = rw (e, g)
      go (suc n) q e g f = f

  pub last_take_none : (s : List ℕ) (k : ℕ) → after_last b s ≡ 0 → after_last b (take k s) ≡ 0
  unfolding after_last
  last_take_none s zero e = refl
  last_take_none [] (suc k) e = refl
  last_take_none (x ∷ s) (suc k) e = go (after_last b s) (eqb x b) (λ f. last_take_none s k f) refl e
    where
      go : (n : ℕ) (q : Bool) → (after_last b s ≡ 0 → after_last b (take k s) ≡ 0) → after_last b s ≡ n → after_first q n ≡ 0 → after_first q (after_last b (take k s)) ≡ 0
      go zero true ih f g = absurd (omega arith)
      go zero false ih f g = rw (ih f)
      go (suc n) q ih f g = absurd (omega arith)

  -- b is the last byte of what stands up to there
  pub last_snoc_take : (s : List ℕ) (k : ℕ) → after_last b s ≡ suc k → take (suc k) s ≡ take k s ++ b ∷ []
  unfolding after_last
  last_snoc_take [] k e = absurd (omega arith)
  last_snoc_take (x ∷ s) k e = go (after_last b s) k (eqb x b) refl (λ (n : ℕ) f. last_snoc_take s n f) refl e
    where
      go : (n k : ℕ) (q : Bool) → eqb x b ≡ q → ((m : ℕ) → after_last b s ≡ suc m → take (suc m) s ≡ take m s ++ b ∷ []) → after_last b s ≡ n → after_first q n ≡ suc k
          → take (suc k) (x ∷ s) ≡ take k (x ∷ s) ++ b ∷ []
      go zero zero true f ih g h = rw (eqb-true x b f)
      go zero (suc k) true f ih g h = absurd (omega arith)
      go zero k false f ih g h = absurd (omega arith)
      go (suc n) zero q f ih g h = absurd (omega arith)
      go (suc n) (suc k) q f ih g h = let m : k ≡ n = omega arith in ap (λ (l : List ℕ). x ∷ l) (ih k (g ∙ ap suc (sym m)))
