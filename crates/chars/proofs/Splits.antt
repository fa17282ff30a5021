-- The stretches of a text between its bytes b, walked from the position i on.
-- Assumes nothing.
use mathlib.Core.Path.{◌≡◌, refl, sym, ap, ◌∙◌}
use mathlib.Core.Bool.{Bool, true, false, not, ◌&&◌, cond}
use mathlib.Core.List.{List, [], ◌∷◌, ◌++◌, flat_map}
use mathlib.Core.Logic.{⊎_elim}
use Prim.Native.Nat.{ℕ, suc, ◌+◌, ◌-◌, ◌≤◌, ◌<◌}
use native.Mathlib.Nat.{le_of_suc-le-suc, not-suc-le-zero, eq-or-lt_of_le}
use native.Mathlib.Numerals.{add-one}
use native.Mathlib.Omega.{arith}
use lib.Dec.{eqb}
use lib.ListN.{length, take, drop, length-append, length-drop}
use lib.Seq.{drop-drop, take_all, take-append_seam, drop-append-add}
use borrow.Author.Tests.{eqb-true}
use Rattle.chars.specs.Lists.{every, first_passing, index_of, split, cut, all}
use Rattle.base.proofs.Bools.{and_left, and_right, and_true}
use Rattle.chars.proofs.Searches.{index_le, index_append}
use Rattle.chars.proofs.FirstBytes.{index_none}
use Rattle.chars.specs.Bytes.{slash}

module _ (b : ℕ) where
  pub split_last : (s : List ℕ) → index_of b s ≡ length s → split b s ≡ s ∷ []
  unfolding split first_passing
  split_last [] e = refl
  split_last (x ∷ s) e = go (eqb x b) (λ h. split_last s h) e
    where
      go : (q : Bool) → (index_of b s ≡ length s → split b s ≡ s ∷ []) → cond q 0 (suc (index_of b s)) ≡ suc (length s) → cut q x (split b s) ≡ (x ∷ s) ∷ []
      go true ih e = absurd (omega arith)
      go false ih e = ap (cut false x) (ih (omega arith))

  pub split_more : (s : List ℕ) → index_of b s < length s → split b s ≡ take (index_of b s) s ∷ split b (drop (suc (index_of b s)) s)
  unfolding split first_passing
  split_more [] h = absurd (not-suc-le-zero h)
  split_more (x ∷ s) h = go (eqb x b) (λ l. split_more s l) h
    where
      go : (q : Bool) → (index_of b s < length s → split b s ≡ take (index_of b s) s ∷ split b (drop (suc (index_of b s)) s)) → cond q 0 (suc (index_of b s)) < suc (length s)
          → cut q x (split b s) ≡ take (cond q 0 (suc (index_of b s))) (x ∷ s) ∷ split b (drop (suc (cond q 0 (suc (index_of b s)))) (x ∷ s))
      go true ih h = refl
      go false ih h = ap (cut false x) (ih (le_of_suc-le-suc h))

  -- the stretch from i, which ends at e: the next b, or the end
  module _ (s : List ℕ) (i e : ℕ) (here : e ≡ i + index_of b (drop i s)) (h : i ≤ length s) where
    far : e - i ≡ index_of b (drop i s)
    far = omega arith

    pub stretch_le : e ≤ length s
    stretch_le = omega (arith, index_le b (drop i s), length-drop i s)

    last_is : e ≡ length s → split b (drop i s) ≡ take (e - i) (drop i s) ∷ []
    last_is q = rw (split_last (drop i s) (sym far ∙ sym (length-drop i s ∙ ap (λ (n : ℕ). n - i) (sym q))), take_all (e - i) (drop i s) (omega (arith, length-drop i s)))

    more_is : e < length s → split b (drop i s) ≡ take (e - i) (drop i s) ∷ split b (drop (e + 1) s)
    more_is l =
        let k : index_of b (drop i s) < length (drop i s) = simp length-drop (omega arith) in
        let d : i + suc (index_of b (drop i s)) ≡ e + 1 = omega arith in
        rw (split_more (drop i s) k, ← far, drop-drop, far, d)

    module _ (p : List ℕ → Bool) where
      pub all_last : e ≡ length s → p (take (e - i) (drop i s)) ≡ true → all p (split b (drop i s)) ≡ true
      all_last q f = rw (last_is q, f)

      pub all_more : e < length s → p (take (e - i) (drop i s)) ≡ true → all p (split b (drop i s)) ≡ all p (split b (drop (e + 1) s))
      all_more l f = rw (more_is l, f)

      pub all_not : p (take (e - i) (drop i s)) ≡ false → all p (split b (drop i s)) ≡ false
      all_not f = ⊎_elim (λ q. rw (last_is q, f)) (λ l. rw (more_is l, f)) (eq-or-lt_of_le stretch_le)

-- where w holds no b: alone it is one stretch, before a b the first
module _ (b : ℕ) (w : List ℕ) (e : every (λ (x : ℕ). not (eqb x b)) w ≡ true) where
  pub split_whole : split b w ≡ w ∷ []
  split_whole = split_last b w (index_none b w e)

  pub split_append : (s : List ℕ) → split b (w ++ b ∷ s) ≡ w ∷ split b s
  split_append s =
      let n : index_of b (w ++ b ∷ s) ≡ length w = index_append b w s e in
      let l : index_of b (w ++ b ∷ s) < length (w ++ b ∷ s) = omega (arith, length-append w (b ∷ s)) in
      split_more b (w ++ b ∷ s) l ∙ rw (n, take-append_seam w (b ∷ s), ← add-one, drop-append-add w (b ∷ s) 1)

-- what every byte of every stretch passes, and b, every byte passes
pub split_every : (b : ℕ) (q : ℕ → Bool) → q b ≡ true → (s : List ℕ) → all (every q) (split b s) ≡ true → every q s ≡ true
unfolding split every
split_every b q h [] e = refl
split_every b q h (x ∷ s) e = go (eqb x b) refl (split b s) (λ k. split_every b q h s k) e
  where
    go : (p : Bool) → eqb x b ≡ p → (l : List (List ℕ)) → (all (every q) l ≡ true → every q s ≡ true) → all (every q) (cut p x l) ≡ true → (q x && every q s) ≡ true
    go true f l ih e = and_true (q x) (every q s) (ap q (eqb-true x b f) ∙ h) (ih e)
    go false f [] ih e = and_true (q x) (every q s) (and_left (q x) true (and_left (q x && true) true e)) (ih refl)
    go false f (y ∷ l) ih e =
        let k : (q x && every q y) ≡ true = and_left (q x && every q y) (all (every q) l) e in
        and_true (q x) (every q s) (and_left (q x) (every q y) k)
        (ih (and_true (every q y) (all (every q) l) (and_right (q x) (every q y) k) (and_right (q x && every q y) (all (every q) l) e)))

pub all_imp : (p r : List ℕ → Bool) → ((s : List ℕ) → p s ≡ true → r s ≡ true) → (l : List (List ℕ)) → all p l ≡ true → all r l ≡ true
all_imp p r h [] e = refl
all_imp p r h (x ∷ l) e = and_true (r x) (all r l) (h x (and_left (p x) (all p l) e)) (all_imp p r h l (and_right (p x) (all p l) e))

-- a text has a stretch; one that ends with b has an empty one more
pub split_some : (b : ℕ) (s : List ℕ) → split b s ≡ [] → ⊥
unfolding split
split_some b [] e = let z : ◌≡◌ {A = ℕ} 0 1 = cc in omega arith
split_some b (x ∷ s) e = go (eqb x b) (split b s) e
  where
    go : (q : Bool) (l : List (List ℕ)) → cut q x l ≡ [] → ⊥
    go true l e = let z : ◌≡◌ {A = ℕ} 0 1 = cc in omega arith
    go false [] e = let z : ◌≡◌ {A = ℕ} 0 1 = cc in omega arith
    go false (y ∷ l) e = let z : ◌≡◌ {A = ℕ} 0 1 = cc in omega arith

-- the stretches with a b before each but the first
abbrev pub rejoin : ℕ → List (List ℕ) → List ℕ
rejoin b [] = []
rejoin b (w ∷ l) = w ++ flat_map (λ (v : List ℕ). b ∷ v) l

pub rejoin_split : (b : ℕ) (s : List ℕ) → rejoin b (split b s) ≡ s
unfolding split flat_map
rejoin_split b [] = refl
rejoin_split b (x ∷ s) = go (eqb x b) refl (split b s) (split_some b s) (rejoin_split b s)
  where
    go : (q : Bool) → eqb x b ≡ q → (l : List (List ℕ)) → (l ≡ [] → ⊥) → rejoin b l ≡ s → rejoin b (cut q x l) ≡ x ∷ s
    go q e [] n ih = absurd (n refl)
    go true e (w ∷ l) n ih = rw (← ih, eqb-true x b e)
    go false e (w ∷ l) n ih = rw (← ih)

pub split_snoc : (s : List ℕ) → split slash (s ++ slash ∷ []) ≡ split slash s ++ [] ∷ []
unfolding split
split_snoc [] = refl
split_snoc (x ∷ s) = ap (cut (eqb x slash) x) (split_snoc s) ∙ go (eqb x slash) (split slash s) (split_some slash s)
  where
    go : (q : Bool) (l : List (List ℕ)) → (l ≡ [] → ⊥) → cut q x (l ++ [] ∷ []) ≡ cut q x l ++ [] ∷ []
    go true l n = refl
    go false [] n = absurd (n refl)
    go false (y ∷ l) n = refl
