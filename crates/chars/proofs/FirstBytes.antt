-- Where a byte first stands, in texts that are cut.
-- Assumes nothing.
use Prim.Native.Nat.{ℕ, zero, suc, ◌+◌, ◌≤◌, ◌<◌}
use mathlib.Core.Path.{◌≡◌, ap, refl, sym, ◌∙◌}
use mathlib.Core.Bool.{Bool, true, false, not, cond, false≢true}
use mathlib.Core.List.{List, ◌∷◌, [], ◌++◌}
use native.Mathlib.Nat.{zero-add, not-suc-le-zero, le_of_suc-le-suc}
use native.Mathlib.Omega.{arith}
use lib.Dec.{eqb}
use lib.ListN.{get_or, length, take, length-append}
use lib.Seq.{take-length, take-append_seam}
use borrow.Author.Tests.{eqb-true, eq-eqb, ne_eqb, not-true}
use Rattle.base.proofs.Bools.{and_left, and_right, and_true}
use Rattle.base.proofs.Lists.{get_or_seam}
use Rattle.chars.specs.Lists.{every, index_of, first_passing, first_not}

module _ (p : ℕ → Bool) where
  -- the first byte that passes, if there is one
  pub at_first : (s : List ℕ) → first_passing p s < length s → p (get_or s (first_passing p s) 0) ≡ true
  unfolding first_passing
  at_first [] h = absurd (not-suc-le-zero h)
  at_first (x ∷ s) h = go (p x) refl (λ l. at_first s l) h
    where
      go : (q : Bool) → p x ≡ q → (first_passing p s < length s → p (get_or s (first_passing p s) 0) ≡ true) → cond q 0 (suc (first_passing p s)) < suc (length s)
          → p (get_or (x ∷ s) (cond q 0 (suc (first_passing p s))) 0) ≡ true
      go true e ih l = e
      go false e ih l = ih (le_of_suc-le-suc l)

  -- i is where it stands: no byte before i passes, and that at i does, or there is none
  pub first_is : (r : ℕ → Bool) → ((x : ℕ) → r x ≡ true → p x ≡ false) → (s : List ℕ) (i : ℕ) → i ≤ length s → every r (take i s) ≡ true → (i < length s → p (get_or s i 0) ≡ true)
      → first_passing p s ≡ i
  unfolding first_passing every
  first_is r f [] i h e at = omega arith
  first_is r f (x ∷ s) zero h e at = rw (at (omega arith))
  first_is r f (x ∷ s) (suc i) h e at =
      rw (f x (and_left (r x) (every r (take i s)) e), first_is r f s i (le_of_suc-le-suc h) (and_right (r x) (every r (take i s)) e) (λ l. at (omega arith)))

  -- it stands behind x
  pub first_append : (r : ℕ → Bool) → ((x : ℕ) → r x ≡ true → p x ≡ false) → (x z : List ℕ) → every r x ≡ true → (0 < length z → p (get_or z 0 0) ≡ true) → first_passing p (x ++ z) ≡ length x
  first_append r f x z e at =
      let n : length (x ++ z) ≡ length x + length z = length-append x z in
      first_is r f (x ++ z) (length x) (omega arith) (rw (take-append_seam x z) e) (λ l. ap p (get_or_seam x z) ∙ at (omega arith))

  -- all before the first byte that fails pass
  pub every_before : (s : List ℕ) → every p (take (first_not p s) s) ≡ true
  unfolding first_passing every
  every_before [] = refl
  every_before (x ∷ s) = go (p x) refl (every_before s)
    where
      go : (q : Bool) → p x ≡ q → every p (take (first_not p s) s) ≡ true → every p (take (cond (not q) 0 (suc (first_not p s))) (x ∷ s)) ≡ true
      go true e ih = and_true (p x) (every p (take (first_not p s) s)) e ih
      go false e ih = refl

module _ (p : ℕ → Bool) where
  -- i is where the first byte stands that fails
  pub first_not_is : (s : List ℕ) (i : ℕ) → i ≤ length s → every p (take i s) ≡ true → (i < length s → p (get_or s i 0) ≡ false) → first_not p s ≡ i
  first_not_is s i h e at = first_is (λ (x : ℕ). not (p x)) p (λ x q. ap not q) s i h e (λ l. ap not (at l))

  -- it stands behind x
  pub first_not_append : (x z : List ℕ) → every p x ≡ true → (0 < length z → p (get_or z 0 0) ≡ false) → first_not p (x ++ z) ≡ length x
  first_not_append x z e at = first_append (λ (y : ℕ). not (p y)) p (λ y q. ap not q) x z e (λ l. ap not (at l))

  -- no byte fails
  pub every_first : (s : List ℕ) → every p s ≡ eqb (first_not p s) (length s)
  every_first s = go (every p s) refl
    where
      go : (q : Bool) → every p s ≡ q → q ≡ eqb (first_not p s) (length s)
      go true e = sym (eq-eqb (first_not p s) (length s) (first_not_is s (length s) (omega arith) (rw (take-length s) e) (λ l. absurd (omega arith))))
      go false e = sym (ne_eqb (first_not p s) (length s) (λ h. false≢true (sym e ∙ sym (ap (every p) (take-length s)) ∙ ap (λ (n : ℕ). every p (take n s)) (sym h) ∙ every_before p s)))

  -- the same, where a search from the start found i
  pub every_found : (s : List ℕ) (i : ℕ) → i ≡ 0 + first_not p s → eqb i (length s) ≡ every p s
  every_found s i e = rw (every_first s, e ∙ zero-add (first_not p s))

-- the first byte b of s, if there is one
pub at_index : (b : ℕ) (s : List ℕ) → index_of b s < length s → get_or s (index_of b s) 0 ≡ b
at_index b s h = eqb-true _ b (at_first (λ (x : ℕ). eqb x b) s h)

-- b stands nowhere in s
pub index_none : (b : ℕ) (s : List ℕ) → every (λ (x : ℕ). not (eqb x b)) s ≡ true → index_of b s ≡ length s
index_none b s e =
    first_is (λ (x : ℕ). eqb x b) (λ (x : ℕ). not (eqb x b)) (λ x q. not-true (eqb x b) q) s (length s) (omega arith) (rw (take-length s) e) (λ l. absurd (omega arith))

pub index_before : (b : ℕ) (s : List ℕ) → index_of b (take (index_of b s) s) ≡ length (take (index_of b s) s)
unfolding first_passing
index_before b [] = refl
index_before b (x ∷ s) = go (eqb x b) refl (index_before b s)
  where
    go : (q : Bool) → eqb x b ≡ q → index_of b (take (index_of b s) s) ≡ length (take (index_of b s) s)
        → index_of b (take (cond q 0 (suc (index_of b s))) (x ∷ s)) ≡ length (take (cond q 0 (suc (index_of b s))) (x ∷ s))
    go true e ih = refl
    go false e ih = rw e (ap suc ih)

-- no byte before the first b is one
pub index_every : (b : ℕ) (s : List ℕ) → every (λ (x : ℕ). not (eqb x b)) (take (index_of b s) s) ≡ true
unfolding first_passing every
index_every b [] = refl
index_every b (x ∷ s) = go (eqb x b) refl (index_every b s)
  where
    go : (q : Bool) → eqb x b ≡ q → every (λ (y : ℕ). not (eqb y b)) (take (index_of b s) s) ≡ true
        → every (λ (y : ℕ). not (eqb y b)) (take (cond q 0 (suc (index_of b s))) (x ∷ s)) ≡ true
    go true e ih = refl
    go false e ih = rw e ih

pub first_take : (p : ℕ → Bool) (s : List ℕ) (m : ℕ) → first_passing p s < m → first_passing p (take m s) ≡ first_passing p s
unfolding first_passing
first_take p s zero h = absurd (not-suc-le-zero h)
first_take p [] (suc m) h = refl
first_take p (x ∷ s) (suc m) h = go (p x) (λ l. first_take p s m l) h
  where
    go : (q : Bool) → (first_passing p s < m → first_passing p (take m s) ≡ first_passing p s) → cond q 0 (suc (first_passing p s)) < suc m → cond q 0 (suc (first_passing p (take m s))) ≡ cond q 0 (suc (first_passing p s))
    go true ih l = refl
    go false ih l = ap suc (ih (le_of_suc-le-suc l))
