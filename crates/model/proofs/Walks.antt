-- The first entry that passes: for loops over entries, and for binary search.
-- Assumes nothing.
use Prim.Native.Nat.{ℕ, zero, suc, ◌+◌, ◌≤◌, ◌<◌}
use mathlib.Core.Path.{◌≡◌, refl, ap, sym, ◌∙◌}
use mathlib.Core.Bool.{Bool, true, false, not, ◌&&◌, ◌||◌, cond, true≢false}
use mathlib.Core.List.{List, [], ◌∷◌, ◌++◌, map}
use native.Mathlib.Omega.{arith}
use native.Mathlib.Numerals.{add-one}
use lib.Dec.{ltb}
use lib.ListN.{length, get_or, take, drop}
use lib.Seq.{slice, drop-cons, drop-length}
use borrow.Author.Tests.{ltb-true, ltb-false, not-false}
use Rattle.model.specs.Sets.{any, filter, Each, AllPairs}
use Rattle.model.specs.Places.{first_where, lead}
use Rattle.model.proofs.Lists.{each_map, each_both, each_at, filter_none}

module _ {E : Type 0} where
  module _ (p : E → Bool) where
    pub first_le : (xs : List E) → first_where p xs ≤ length xs
    unfolding first_where
    first_le [] = omega arith
    first_le (x ∷ xs) = go (p x) (first_le xs)
      where
        go : (t : Bool) → first_where p xs ≤ length xs → cond t 0 (suc (first_where p xs)) ≤ suc (length xs)
        go true e = omega arith
        go false e = omega arith

    -- A LOOP: one step past an entry that fails, the stop at one that passes, the end
    pub walk_step : (xs : List E) (i : ℕ) (d : E) → i < length xs → p (get_or xs i d) ≡ false →
        i + first_where p (drop i xs) ≡ i + 1 + first_where p (drop (i + 1) xs)
    unfolding first_where
    walk_step xs i d h e = rw (drop-cons xs i d h, e, add-one i) (omega arith)

    pub walk_stop : (xs : List E) (i : ℕ) (d : E) → i < length xs → p (get_or xs i d) ≡ true → i + first_where p (drop i xs) ≡ i
    unfolding first_where
    walk_stop xs i d h e = rw (drop-cons xs i d h, e) (omega arith)

    pub walk_end : (xs : List E) (i : ℕ) → i ≡ length xs → i + first_where p (drop i xs) ≡ i
    unfolding first_where
    walk_end xs i h = rw (h, drop-length xs) (omega arith)

    -- WHAT STANDS THERE: the first that passes, and before it none that does
    pub first_passes : (xs : List E) (d : E) → first_where p xs < length xs → p (get_or xs (first_where p xs) d) ≡ true
    unfolding first_where
    first_passes [] d k = absurd (omega arith)
    first_passes (x ∷ xs) d k = go (p x) refl (first_passes xs d) k
      where
        go : (t : Bool) → p x ≡ t → (first_where p xs < length xs → p (get_or xs (first_where p xs) d) ≡ true) →
            cond t 0 (suc (first_where p xs)) < suc (length xs) → p (get_or (x ∷ xs) (cond t 0 (suc (first_where p xs))) d) ≡ true
        go true e ih k = e
        go false e ih k = ih (omega arith)

    pub first_fails : (xs : List E) → Each (λ (x : E). p x ≡ false) (take (first_where p xs) xs)
    unfolding first_where
    first_fails [] = tt
    first_fails (x ∷ xs) = go (p x) refl (first_fails xs)
      where
        go : (b : Bool) → p x ≡ b → Each (λ (y : E). p y ≡ false) (take (first_where p xs) xs) →
            Each (λ (y : E). p y ≡ false) (take (cond b 0 (suc (first_where p xs))) (x ∷ xs))
        go true e h = tt
        go false e h = (e, h)

    pub before_first : (xs : List E) (m : ℕ) (d : E) → m < first_where p xs → p (get_or xs m d) ≡ false
    unfolding first_where
    before_first [] m d l = absurd (omega arith)
    before_first (x ∷ xs) m d l = go (p x) refl m l (before_first xs)
      where
        go : (b : Bool) → p x ≡ b → (m : ℕ) → m < cond b 0 (suc (first_where p xs)) →
            ((n : ℕ) (d : E) → n < first_where p xs → p (get_or xs n d) ≡ false) → p (get_or (x ∷ xs) m d) ≡ false
        go true e m l ih = absurd (omega arith)
        go false e zero l ih = e
        go false e (suc m) l ih = ih m d (omega arith)

    -- an entry that passes is not before the first
    pub first_le_passing : (xs : List E) (m : ℕ) (d : E) → m < length xs → p (get_or xs m d) ≡ true → first_where p xs ≤ m
    unfolding first_where
    first_le_passing [] m d l e = absurd (omega arith)
    first_le_passing (x ∷ xs) zero d l e = rw e (omega arith)
    first_le_passing (x ∷ xs) (suc m) d l e = go (p x) (first_le_passing xs m d (omega arith) e)
      where
        go : (b : Bool) → first_where p xs ≤ m → cond b 0 (suc (first_where p xs)) ≤ suc m
        go true h = omega arith
        go false h = omega arith

    -- BINARY SEARCH: a test that, once passed, is passed by all that follow
    abbrev pub Monotone : List E → Type 0
    Monotone xs = AllPairs (λ (x y : E). p x ≡ true → p y ≡ true) xs

    -- an entry that does not pass is before the first
    pub failing_lt_first : (xs : List E) (m : ℕ) (d : E) → Monotone xs → m < length xs → p (get_or xs m d) ≡ false → m < first_where p xs
    unfolding first_where
    failing_lt_first [] m d h l e = absurd (omega arith)
    failing_lt_first (x ∷ xs) zero d h l e = rw e (omega arith)
    failing_lt_first (x ∷ xs) (suc m) d h l e = go (p x) refl (failing_lt_first xs m d h.1 (omega arith) e)
      where
        go : (b : Bool) → p x ≡ b → m < first_where p xs → suc m < cond b 0 (suc (first_where p xs))
        go true f k = absurd (true≢false (sym (each_at (λ (y : E). p x ≡ true → p y ≡ true) xs m d (omega arith) h.0 f) ∙ e))
        go false f k = omega arith

    -- all from the first on pass
    pub first_rest : (xs : List E) → Monotone xs → Each (λ (x : E). p x ≡ true) (drop (first_where p xs) xs)
    unfolding first_where
    first_rest [] h = tt
    first_rest (x ∷ xs) h = go (p x) refl (first_rest xs h.1)
      where
        go : (b : Bool) → p x ≡ b → Each (λ (y : E). p y ≡ true) (drop (first_where p xs) xs) →
            Each (λ (y : E). p y ≡ true) (drop (cond b 0 (suc (first_where p xs))) (x ∷ xs))
        go true e k = (e, each_map (λ (y : E). p x ≡ true → p y ≡ true) (λ (y : E). p y ≡ true) xs (λ y f. f e) h.0)
        go false e k = k

    -- found by halving: the entry below fails, the entry at it passes
    pub first_at : (xs : List E) (i : ℕ) (d : E) → Monotone xs → i ≤ length xs → ((j : ℕ) → i ≡ suc j → p (get_or xs j d) ≡ false) →
        (i < length xs → p (get_or xs i d) ≡ true) →
        first_where p xs ≡ i
    first_at xs i d h l a b = go (ltb i (length xs)) refl i a refl
      where
        high : (t : Bool) → ltb i (length xs) ≡ t → first_where p xs ≤ i
        high true e = let k : i < length xs = ltb-true i (length xs) e in first_le_passing xs i d k (b k)
        high false e = omega (arith, ltb-false i (length xs) e, first_le xs)

        go : (t : Bool) → ltb i (length xs) ≡ t → (n : ℕ) → ((j : ℕ) → n ≡ suc j → p (get_or xs j d) ≡ false) → n ≡ i → first_where p xs ≡ i
        go t e zero a z = omega (arith, high t e)
        go t e (suc j) a z = omega (arith, high t e, failing_lt_first xs j d h (omega arith) (a j refl))

    pub first_lt : (xs : List E) → any p xs ≡ true → first_where p xs < length xs
    unfolding first_where any
    first_lt [] k = absurd (true≢false (sym k))
    first_lt (x ∷ xs) k = go (p x) (first_lt xs) k
      where
        go : (t : Bool) → (any p xs ≡ true → first_where p xs < length xs) → (t || any p xs) ≡ true →
            cond t 0 (suc (first_where p xs)) < suc (length xs)
        go true ih k = omega arith
        go false ih k = let e = ih k in omega arith

    pub first_append_none : (xs ys : List E) → any p xs ≡ false → first_where p (xs ++ ys) ≡ length xs + first_where p ys
    unfolding first_where any
    first_append_none [] ys h = omega arith
    first_append_none (x ∷ xs) ys h = go (p x) (first_append_none xs ys) h
      where
        go : (t : Bool) → (any p xs ≡ false → first_where p (xs ++ ys) ≡ length xs + first_where p ys) → (t || any p xs) ≡ false →
            cond t 0 (suc (first_where p (xs ++ ys))) ≡ suc (length xs) + first_where p ys
        go true ih h = absurd (true≢false h)
        go false ih h = omega (arith, ih h)

    -- the second list begins with one that passes: the walk ends where the first list does, at the latest
    pub first_append_stop : (xs ys : List E) → first_where p ys ≡ 0 → first_where p (xs ++ ys) ≡ first_where p xs
    unfolding first_where
    first_append_stop [] ys h = h
    first_append_stop (x ∷ xs) ys h = rw (first_append_stop xs ys h)

  pub first_map : {F : Type 0} (f : F → E) (p : E → Bool) (q : F → Bool) → ((x : F) → p (f x) ≡ q x) → (xs : List F) →
      first_where p (map f xs) ≡ first_where q xs
  unfolding first_where
  first_map f p q e [] = refl
  first_map f p q e (x ∷ xs) = rw (e x, first_map f p q e xs)

  -- THE LEAD: all of it passes
  pub lead_take : (p : E → Bool) (xs : List E) → Each (λ (x : E). p x ≡ true) (take (lead p xs) xs)
  lead_take p xs = nots (take (lead p xs) xs) (first_fails (λ (x : E). not (p x)) xs)
    where
      nots : (ys : List E) → Each (λ (x : E). not (p x) ≡ false) ys → Each (λ (x : E). p x ≡ true) ys
      nots [] h = tt
      nots (y ∷ ys) h = (not-false (p y) h.0, nots ys h.1)

  -- BETWEEN TWO FIRSTS: those that pass p and not q, where both tests, once passed, are passed by all that follow, and what passes q
  -- passes p
  first_none : (p : E → Bool) (xs : List E) → Each (λ (x : E). p x ≡ true) xs → first_where p xs ≡ 0
  unfolding first_where
  first_none p [] h = refl
  first_none p (x ∷ xs) h = rw h.0

  module _ (p q r : E → Bool) where
    abbrev pub Parted : E → Type 0
    Parted x = (q x ≡ true → p x ≡ true) × (r x ≡ (p x && not (q x)))

    past : (y : E) → q y ≡ true → Parted y → r y ≡ false
    past y e h = h.1 ∙ ap (λ (b : Bool). p y && not b) e ∙ go (p y)
      where
        go : (b : Bool) → (b && false) ≡ false
        go true = refl
        go false = refl

    pub filter_between : (xs : List E) → Monotone p xs → Monotone q xs → Each Parted xs →
        filter r xs ≡ slice (first_where p xs) (first_where q xs) xs
    unfolding filter first_where
    filter_between [] a b c = refl
    filter_between (x ∷ xs) a b c = ap (λ (t : Bool). cond t (x ∷ filter r xs) (filter r xs)) c.0.1
        ∙ go (p x) refl (q x) refl (filter_between xs a.1 b.1 c.1)
      where
        m : ℕ
        m = first_where p xs

        n : ℕ
        n = first_where q xs

        go : (s : Bool) → p x ≡ s → (t : Bool) → q x ≡ t → filter r xs ≡ slice m n xs
            → cond (s && not t) (x ∷ filter r xs) (filter r xs) ≡ slice (cond s 0 (suc m)) (cond t 0 (suc n)) (x ∷ xs)
        go true e true f ih = filter_none r xs
            (each_both (λ (y : E). q x ≡ true → q y ≡ true) Parted (λ (y : E). r y ≡ false) xs (λ y g h. past y (g f) h) b.0 c.1)
        go true e false f ih =
            let z : m ≡ 0 = first_none p xs
            (each_map (λ (y : E). p x ≡ true → p y ≡ true) (λ (y : E). p y ≡ true) xs (λ y g. g e) a.0) in
            ap (λ (l : List E). x ∷ l) (ih ∙ ap (λ (k : ℕ). slice k n xs) z)
        go false e true f ih = absurd (true≢false (sym (c.0.0 f) ∙ e))
        go false e false f ih = ih
