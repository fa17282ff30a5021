-- Attributes one after the other: the first of them, the first k and those that follow, and where they end.
-- Assumes nothing.
use Prim.Native.Nat.{ℕ, zero, suc, ◌+◌, ◌-◌, ◌≤◌, ◌<◌}
use mathlib.Core.Path.{◌≡◌, refl, sym, ap, ◌∙◌}
use mathlib.Core.List.{List, [], ◌∷◌, ◌++◌, append-nil}
use native.Mathlib.Nat.{zero-add}
use native.Mathlib.Omega.{arith}
use Rattle.markup.specs.Tags.{Attribute, Attributed, Has, HasNot, next_attribute, attributes_at, after_attributes}

-- one attribute stands at the start, or none does
pub attributes_first : (k : ℕ) (s : List ℕ) (a : Attribute) (t : List ℕ) → next_attribute s ≡ Has a t → attributes_at (suc k) s ≡ a ∷ attributes_at k t
unfolding attributes_at
attributes_first k s a t e = rw e

pub attributes_none : (k : ℕ) (s : List ℕ) → next_attribute s ≡ HasNot → attributes_at k s ≡ []
unfolding attributes_at
attributes_none zero s e = refl
attributes_none (suc k) s e = rw e

pub behind_first : (k : ℕ) (s : List ℕ) (a : Attribute) (t : List ℕ) → next_attribute s ≡ Has a t → after_attributes (suc k) s ≡ after_attributes k t
unfolding after_attributes
behind_first k s a t e = rw e

pub behind_none : (k : ℕ) (s : List ℕ) → next_attribute s ≡ HasNot → after_attributes k s ≡ s
unfolding after_attributes
behind_none zero s e = refl
behind_none (suc k) s e = rw e

-- the first k, and those behind them
pub attributes_add : (k n : ℕ) (s : List ℕ) → attributes_at (k + n) s ≡ attributes_at k s ++ attributes_at n (after_attributes k s)
unfolding attributes_at after_attributes
attributes_add zero n s = ap (λ (m : ℕ). attributes_at m s) (zero-add n)
attributes_add (suc k) n s = go (next_attribute s) refl (λ (t : List ℕ). attributes_add k n t)
  where
    go : (x : Attributed) → next_attribute s ≡ x → ((t : List ℕ) → attributes_at (k + n) t ≡ attributes_at k t ++ attributes_at n (after_attributes k t)) →
        attributes_at (suc k + n) s ≡ attributes_at (suc k) s ++ attributes_at n (after_attributes (suc k) s)
    go (Has a t) e f =
        let up : suc k + n ≡ suc (k + n) = omega arith in
        ap (λ (m : ℕ). attributes_at m s) up ∙ attributes_first (k + n) s a t e ∙ ap (λ (l : List Attribute). a ∷ l) (f t)
        ∙ sym (ap (λ (l : List Attribute). l ++ attributes_at n (after_attributes k t)) (attributes_first k s a t e))
        ∙ sym (ap (λ (l : List ℕ). attributes_at (suc k) s ++ attributes_at n l) (behind_first k s a t e))
    go HasNot e f =
        attributes_none (suc k + n) s e
        ∙ sym (ap (λ (l : List Attribute). l ++ attributes_at n (after_attributes (suc k) s)) (attributes_none (suc k) s e)
        ∙ ap (attributes_at n) (behind_none (suc k) s e) ∙ attributes_none n s e)

pub behind_add : (k n : ℕ) (s : List ℕ) → after_attributes (k + n) s ≡ after_attributes n (after_attributes k s)
unfolding after_attributes
behind_add zero n s = ap (λ (m : ℕ). after_attributes m s) (zero-add n)
behind_add (suc k) n s = go (next_attribute s) refl (λ (t : List ℕ). behind_add k n t)
  where
    go : (x : Attributed) → next_attribute s ≡ x → ((t : List ℕ) → after_attributes (k + n) t ≡ after_attributes n (after_attributes k t)) →
        after_attributes (suc k + n) s ≡ after_attributes n (after_attributes (suc k) s)
    go (Has a t) e f =
        let up : suc k + n ≡ suc (k + n) = omega arith in
        ap (λ (m : ℕ). after_attributes m s) up ∙ behind_first (k + n) s a t e ∙ f t ∙ sym (ap (after_attributes n) (behind_first k s a t e))
    go HasNot e f = behind_none (suc k + n) s e ∙ sym (ap (after_attributes n) (behind_none (suc k) s e) ∙ behind_none n s e)

-- what stands behind the first k
module _ (k : ℕ) (s r : List ℕ) (behind : after_attributes k s ≡ r) where
  pub attributes_rest : (m : ℕ) → k ≤ m → attributes_at m s ≡ attributes_at k s ++ attributes_at (m - k) r
  attributes_rest m h =
      let e : m ≡ k + (m - k) = omega arith in
      ap (λ (j : ℕ). attributes_at j s) e ∙ attributes_add k (m - k) s ∙ ap (λ (t : List ℕ). attributes_at k s ++ attributes_at (m - k) t) behind

  -- one more
  module _ (a : Attribute) (t : List ℕ) (next : next_attribute r ≡ Has a t) where
    pub attributes_more : attributes_at (k + 1) s ≡ attributes_at k s ++ (a ∷ [])
    unfolding attributes_at
    attributes_more =
        attributes_add k 1 s ∙ ap (λ (x : List ℕ). attributes_at k s ++ attributes_at 1 x) behind
        ∙ ap (λ (x : List Attribute). attributes_at k s ++ x) (attributes_first 0 r a t next)

    pub behind_more : after_attributes (k + 1) s ≡ t
    unfolding after_attributes
    behind_more = behind_add k 1 s ∙ ap (after_attributes 1) behind ∙ behind_first 0 r a t next

    -- all, where there is one more
    pub attributes_on : (m : ℕ) → k < m → attributes_at m s ≡ attributes_at k s ++ (a ∷ attributes_at (m - k - 1) t)
    attributes_on m h =
        let e : m - k ≡ suc (m - k - 1) = omega arith in
        attributes_rest m (omega arith)
        ∙ ap (λ (x : List Attribute). attributes_at k s ++ x) (ap (λ (j : ℕ). attributes_at j r) e ∙ attributes_first (m - k - 1) r a t next)

  -- there are no more
  module _ (none : next_attribute r ≡ HasNot) (m : ℕ) (h : k ≤ m) where
    pub attributes_all : attributes_at m s ≡ attributes_at k s
    attributes_all = attributes_rest m h ∙ ap (λ (x : List Attribute). attributes_at k s ++ x) (attributes_none (m - k) r none) ∙ append-nil (attributes_at k s)

    pub behind_all : after_attributes m s ≡ r
    behind_all =
        let e : m ≡ k + (m - k) = omega arith in
        ap (λ (j : ℕ). after_attributes j s) e ∙ behind_add k (m - k) s ∙ ap (after_attributes (m - k)) behind ∙ behind_none (m - k) r none
