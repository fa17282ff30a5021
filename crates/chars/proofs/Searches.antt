-- What a loop over a text cites: the text from the position i on, and the text up to i.
-- Assumes nothing.
use mathlib.Core.Path.{◌≡◌, refl, sym, ap, ◌∙◌}
use mathlib.Core.Bool.{Bool, true, false, not, ◌&&◌, ◌||◌, cond, false≢true}
use mathlib.Core.List.{List, [], ◌∷◌, ◌++◌}
use Prim.Native.Nat.{ℕ, zero, suc, ◌+◌, ◌-◌, ◌≤◌, ◌<◌}
use native.Mathlib.Nat.{zero-add}
use native.Mathlib.Numerals.{add-one}
use native.Mathlib.Omega.{arith}
use lib.Dec.{eqb}
use lib.ListN.{length, take, drop, get_or, drop_of_length-le}
use lib.Seq.{drop-cons, drop-length, take-suc, length-take-le}
use borrow.Author.Tests.{eq-eqb, ne_eqb}
use Rattle.std.proofs.lemmas.Bool.Decides.{nat_tests}
use Rattle.std.specs.Prelude.{nat_eq}
use Rattle.std.specs.List.{list_any}
use Rattle.chars.specs.Lists.{every, first_passing, index_of, lacks, after_first, after_last}
use Rattle.base.proofs.Lists.{take_rest}
use Rattle.base.proofs.Bools.{and_left, and_right, and_true}

pub drop_next : (s : List ℕ) (i : ℕ) → i < length s → drop i s ≡ get_or s i 0 ∷ drop (i + 1) s
drop_next s i h = rw (add-one) (drop-cons s i 0 h)

-- every byte passes: at i, and at the end
module _ (p : ℕ → Bool) (s : List ℕ) (i : ℕ) where
  pub every_at : (t : Bool) → i < length s → t ≡ p (get_or s i 0) → every p (drop i s) ≡ t && every p (drop (i + 1) s)
  unfolding every
  every_at t h e = rw (drop_next s i h, e)

  pub every_end : length s ≤ i → every p (drop i s) ≡ true
  unfolding every
  every_end h = rw (drop_of_length-le s h)

-- the first byte that passes
module _ (p : ℕ → Bool) (s : List ℕ) (i : ℕ) where
  first_at : (t : Bool) → i < length s → t ≡ p (get_or s i 0) → first_passing p (drop i s) ≡ cond t 0 (suc (first_passing p (drop (i + 1) s)))
  unfolding first_passing
  first_at t h e = rw (drop_next s i h, e)

  pub first_hit : (t : Bool) → i < length s → t ≡ p (get_or s i 0) → t ≡ true → i + first_passing p (drop i s) ≡ i
  first_hit t h e q = rw (first_at t h e, q) (omega arith)

  pub first_miss : (t : Bool) → i < length s → t ≡ p (get_or s i 0) → t ≡ false → i + first_passing p (drop i s) ≡ i + 1 + first_passing p (drop (i + 1) s)
  first_miss t h e q = rw (first_at t h e, q) (omega arith)

  pub first_end_lem : length s ≤ i → i + first_passing p (drop i s) ≡ i
  unfolding first_passing
  first_end_lem h = rw (drop_of_length-le s h) (omega arith)

pub first_le : (p : ℕ → Bool) (s : List ℕ) → first_passing p s ≤ length s
unfolding first_passing
first_le p [] = omega arith
first_le p (x ∷ s) = go (p x) (first_le p s)
  where
    go : (q : Bool) → first_passing p s ≤ length s → cond q 0 (suc (first_passing p s)) ≤ suc (length s)
    go true h = omega arith
    go false h = omega arith

-- the first byte b
module _ (b : ℕ) where
  pub index_le : (s : List ℕ) → index_of b s ≤ length s
  index_le s = first_le (λ (x : ℕ). eqb x b) s

  pub index_hit : (s : List ℕ) (i : ℕ) → i < length s → get_or s i 0 ≡ b → i + index_of b (drop i s) ≡ i
  index_hit s i h e = first_hit (λ (x : ℕ). eqb x b) s i (eqb (get_or s i 0) b) h refl (eq-eqb _ _ e)

  pub index_miss : (s : List ℕ) (i : ℕ) → i < length s → (get_or s i 0 ≡ b → ⊥) → i + index_of b (drop i s) ≡ i + 1 + index_of b (drop (i + 1) s)
  index_miss s i h e = first_miss (λ (x : ℕ). eqb x b) s i (eqb (get_or s i 0) b) h refl (ne_eqb _ _ e)

  pub index_end : (s : List ℕ) (i : ℕ) → length s ≤ i → i + index_of b (drop i s) ≡ i
  index_end s i h = first_end_lem (λ (x : ℕ). eqb x b) s i h

  -- no b at i nor at some places behind it
  module _ (s : List ℕ) (i : ℕ) (n0 : get_or s i 0 ≡ b → ⊥) (n1 : get_or s (i + 1) 0 ≡ b → ⊥) where
    next : (j k : ℕ) → k ≡ j + 1 → j < length s → (get_or s j 0 ≡ b → ⊥) → j + index_of b (drop j s) ≡ k + index_of b (drop k s)
    next j k e h n = index_miss s j h n ∙ ap (λ (m : ℕ). m + index_of b (drop m s)) (sym e)

    pub index_miss2 : i + 1 < length s → i + index_of b (drop i s) ≡ i + 2 + index_of b (drop (i + 2) s)
    index_miss2 h = index_miss s i (omega arith) n0 ∙ next (i + 1) (i + 2) (omega arith) h n1

    module _ (n2 : get_or s (i + 2) 0 ≡ b → ⊥) where
      pub index_miss3 : i + 2 < length s → i + index_of b (drop i s) ≡ i + 3 + index_of b (drop (i + 3) s)
      index_miss3 h = index_miss2 (omega arith) ∙ next (i + 2) (i + 3) (omega arith) h n2

      pub index_miss4 : (get_or s (i + 3) 0 ≡ b → ⊥) → i + 3 < length s → i + index_of b (drop i s) ≡ i + 4 + index_of b (drop (i + 4) s)
      index_miss4 n3 h = index_miss3 (omega arith) ∙ next (i + 3) (i + 4) (omega arith) h n3

-- what the library finds
pub any_lacks : (b : ℕ) (s : List ℕ) → not (list_any (λ (x : ℕ). nat_eq x b) s) ≡ lacks b s
unfolding lacks first_passing
any_lacks b [] = refl
any_lacks b (x ∷ s) = go (eqb x b) (any_lacks b s)
  where
    go : (q : Bool) → not (list_any (λ (y : ℕ). nat_eq y b) s) ≡ lacks b s →
        not (q || list_any (λ (y : ℕ). nat_eq y b) s) ≡ eqb (cond q 0 (suc (index_of b s))) (suc (length s))
    go true e = grind (arith, nat_tests)
    go false e = e ∙ grind (arith, nat_tests)

-- the same, where a search from the start found i
module _ (b : ℕ) (s : List ℕ) (i : ℕ) (here : i ≡ 0 + index_of b s) where
  pub index_found : index_of b s ≡ i
  index_found = sym (here ∙ zero-add (index_of b s))

  pub drop_after : take (length s - (i + 1)) (drop (i + 1) s) ≡ drop (index_of b s + 1) s
  drop_after = rw index_found (take_rest s (i + 1))

  pub drop_after_none : length s ≤ i → take (length s - length s) (drop (length s) s) ≡ drop (index_of b s + 1) s
  drop_after_none h =
      let g : length s ≤ i + 1 = omega arith in
      take_rest s (length s) ∙ drop-length s ∙ sym (rw (index_found) (drop_of_length-le s g))

-- the last byte b
last_snoc : (b x : ℕ) (s : List ℕ) → after_last b (s ++ x ∷ []) ≡ cond (eqb x b) (suc (length s)) (after_last b s)
unfolding after_last
last_snoc b x [] = refl
last_snoc b x (y ∷ s) = rw (last_snoc b x s) (go (eqb x b))
  where
    go : (q : Bool) → after_first (eqb y b) (cond q (suc (length s)) (after_last b s)) ≡ cond q (suc (suc (length s))) (after_first (eqb y b) (after_last b s))
    go true = refl
    go false = refl

last_at : (b : ℕ) (s : List ℕ) (j : ℕ) → j < length s → after_last b (take (suc j) s) ≡ cond (eqb (get_or s j 0) b) (suc j) (after_last b (take j s))
last_at b s j h = rw (take-suc s j 0 h, last_snoc, length-take-le j s (omega arith))

-- for a loop that counts i down
module _ (b : ℕ) (s : List ℕ) (i : ℕ) (z : 0 < i) (h : i ≤ length s) where
  last_before : after_last b (take i s) ≡ cond (eqb (get_or s (i - 1) 0) b) i (after_last b (take (i - 1) s))
  last_before =
      let up : suc (i - 1) ≡ i = omega arith in
      rw up at (last_at b s (i - 1) (omega arith))

  pub last_hit : get_or s (i - 1) 0 ≡ b → after_last b (take i s) ≡ i
  last_hit e = last_before ∙ rw (eq-eqb (get_or s (i - 1) 0) b e)

  pub last_miss : (get_or s (i - 1) 0 ≡ b → ⊥) → after_last b (take i s) ≡ after_last b (take (i - 1) s)
  last_miss e = last_before ∙ rw (ne_eqb (get_or s (i - 1) 0) b e)

pub last_le : (b : ℕ) (s : List ℕ) → after_last b s ≤ length s
unfolding after_last
last_le b [] = omega arith
last_le b (x ∷ s) = go (after_last b s) (eqb x b) (last_le b s)
  where
    go : (n : ℕ) (q : Bool) → n ≤ length s → after_first q n ≤ suc (length s)
    go zero true h = omega arith
    go zero false h = omega arith
    go (suc n) q h = omega arith

-- a byte that stands nowhere in s: the first one after s, and the last one before it
pub index_append : (b : ℕ) (s t : List ℕ) → every (λ (x : ℕ). not (eqb x b)) s ≡ true → index_of b (s ++ b ∷ t) ≡ length s
unfolding every first_passing
index_append b [] t e = rw (eq-eqb b b refl)
index_append b (x ∷ s) t e = go (eqb x b) (index_append b s t) e
  where
    go : (q : Bool) → (every (λ (y : ℕ). not (eqb y b)) s ≡ true → index_of b (s ++ b ∷ t) ≡ length s) → (not q && every (λ (y : ℕ). not (eqb y b)) s) ≡ true
        → cond q 0 (suc (index_of b (s ++ b ∷ t))) ≡ suc (length s)
    go true ih f = absurd (false≢true f)
    go false ih f = ap suc (ih f)

pub last_none : (b : ℕ) (s : List ℕ) → every (λ (x : ℕ). not (eqb x b)) s ≡ true → after_last b s ≡ 0
unfolding every after_last
last_none b [] e = refl
last_none b (x ∷ s) e = go (eqb x b) (last_none b s) e
  where
    go : (q : Bool) → (every (λ (y : ℕ). not (eqb y b)) s ≡ true → after_last b s ≡ 0) → (not q && every (λ (y : ℕ). not (eqb y b)) s) ≡ true → after_first q (after_last b s) ≡ 0
    go true ih f = absurd (false≢true f)
    go false ih f = rw (ih f)

pub last_append : (b : ℕ) (s t : List ℕ) → after_last b t ≡ 0 → after_last b (s ++ b ∷ t) ≡ suc (length s)
unfolding after_last
last_append b [] t e = rw (e, eq-eqb b b refl)
last_append b (x ∷ s) t e = rw (last_append b s t e)

pub every_append : (p : ℕ → Bool) (s t : List ℕ) → every p s ≡ true → every p t ≡ true → every p (s ++ t) ≡ true
unfolding every
every_append p [] t e f = f
every_append p (x ∷ s) t e f = and_true (p x) (every p (s ++ t)) (and_left (p x) (every p s) e) (every_append p s t (and_right (p x) (every p s) e) f)

pub every_imp : (p r : ℕ → Bool) → ((x : ℕ) → p x ≡ true → r x ≡ true) → (s : List ℕ) → every p s ≡ true → every r s ≡ true
unfolding every
every_imp p r h [] e = refl
every_imp p r h (x ∷ s) e = and_true (r x) (every r s) (h x (and_left (p x) (every p s) e)) (every_imp p r h s (and_right (p x) (every p s) e))

-- what passes two tests passes a third that follows from them
pub every_both : (p q r : ℕ → Bool) → ((x : ℕ) → p x ≡ true → q x ≡ true → r x ≡ true) → (s : List ℕ) → every p s ≡ true → every q s ≡ true → every r s ≡ true
unfolding every
every_both p q r h [] e f = refl
every_both p q r h (x ∷ s) e f =
    and_true (r x) (every r s) (h x (and_left (p x) (every p s) e) (and_left (q x) (every q s) f))
    (every_both p q r h s (and_right (p x) (every p s) e) (and_right (q x) (every q s) f))

pub every_take : (p : ℕ → Bool) (n : ℕ) (s : List ℕ) → every p s ≡ true → every p (take n s) ≡ true
unfolding every
every_take p zero s e = refl
every_take p (suc n) [] e = refl
every_take p (suc n) (x ∷ s) e = and_true (p x) (every p (take n s)) (and_left (p x) (every p s) e) (every_take p n s (and_right (p x) (every p s) e))

-- the first k bytes pass, also of what a longer or a shorter beginning holds
pub every_take_take : (p : ℕ → Bool) (k n : ℕ) (s : List ℕ) → every p (take k s) ≡ true → every p (take k (take n s)) ≡ true
unfolding every
every_take_take p zero n s e = refl
every_take_take p (suc k) zero s e = refl
every_take_take p (suc k) (suc n) [] e = refl
every_take_take p (suc k) (suc n) (x ∷ s) e =
    and_true (p x) (every p (take k (take n s))) (and_left (p x) (every p (take k s)) e) (every_take_take p k n s (and_right (p x) (every p (take k s)) e))

pub every_drop : (p : ℕ → Bool) (n : ℕ) (s : List ℕ) → every p s ≡ true → every p (drop n s) ≡ true
unfolding every
every_drop p zero s e = e
every_drop p (suc n) [] e = refl
every_drop p (suc n) (x ∷ s) e = every_drop p n s (and_right (p x) (every p s) e)

pub every_get_or : (p : ℕ → Bool) → p 0 ≡ true → (s : List ℕ) (i : ℕ) → every p s ≡ true → p (get_or s i 0) ≡ true
unfolding every
every_get_or p z [] i e = z
every_get_or p z (x ∷ s) zero e = and_left (p x) (every p s) e
every_get_or p z (x ∷ s) (suc i) e = every_get_or p z s i (and_right (p x) (every p s) e)

-- a text that begins with b has a last b
pub last_pos : (b : ℕ) (s : List ℕ) → 0 < b → get_or s 0 0 ≡ b → 0 < after_last b s
unfolding after_last
last_pos b [] h e = absurd (omega arith)
last_pos b (x ∷ s) h e = rw (eq-eqb x b e) (go (after_last b s))
  where
    go : (n : ℕ) → 0 < after_first true n
    go zero = omega arith
    go (suc n) = omega arith
