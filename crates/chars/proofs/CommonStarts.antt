-- How many elements at the beginning of two lists are the same.
-- Assumes nothing.
use Prim.Native.Nat.{ℕ, zero, suc, ◌+◌, ◌≤◌, ◌<◌, min}
use mathlib.Core.Path.{◌≡◌, refl, ap, ap₂, sym, ◌∙◌}
use mathlib.Core.Bool.{Bool, true, false, cond, true≢false}
use mathlib.Core.List.{List, [], ◌∷◌, ◌++◌}
use native.Mathlib.Omega.{arith, min_cases}
use lib.Dec.{eqb, ltb}
use lib.ListN.{length, get_or, take, drop, length-drop, drop_of_length-le}
use lib.Seq.{drop-cons, take-length}
use borrow.Author.Tests.{eq-eqb, ne_eqb, eqb-true, lt-ltb, le-ltb, ltb-false, ltb-true}
use Rattle.chars.specs.Lists.{same}
use Rattle.chars.specs.Folding.{order}
use Rattle.chars.specs.FoldedNames.{common}
use Rattle.std.specs.declared.cmp.Ordering.TheVariants.{Less, Equal, Greater}
use Rattle.chars.proofs.Equivalence.{same_eq, eq_same}

pub common_append : (t u v : List ℕ) → common (t ++ u) (t ++ v) ≡ length t + common u v
unfolding common
common_append [] u v = omega arith
common_append (x ∷ t) u v = rw (eq-eqb x x refl, common_append t u v) (omega arith)

pub common_left : (x y : List ℕ) → common x y ≤ length x
unfolding common
common_left [] y = omega arith
common_left (a ∷ x) [] = omega arith
common_left (a ∷ x) (c ∷ y) = go (eqb a c) (common_left x y)
  where
    go : (q : Bool) → common x y ≤ length x → cond q (suc (common x y)) 0 ≤ suc (length x)
    go true h = omega arith
    go false h = omega arith

pub common_right : (x y : List ℕ) → common x y ≤ length y
unfolding common
common_right [] y = omega arith
common_right (a ∷ x) [] = omega arith
common_right (a ∷ x) (c ∷ y) = go (eqb a c) (common_right x y)
  where
    go : (q : Bool) → common x y ≤ length y → cond q (suc (common x y)) 0 ≤ suc (length y)
    go true h = omega arith
    go false h = omega arith

-- one element after the other
pub common_same : (a : ℕ) (x y : List ℕ) → common (a ∷ x) (a ∷ y) ≡ suc (common x y)
unfolding common
common_same a x y = rw (eq-eqb a a refl)

pub common_apart : (a c : ℕ) (x y : List ℕ) → (a ≡ c → ⊥) → common (a ∷ x) (c ∷ y) ≡ 0
unfolding common
common_apart a c x y h = rw (ne_eqb a c h)

-- both begin alike as far as something is in common
common_head : (a c n : ℕ) (x y : List ℕ) → suc n ≤ common (a ∷ x) (c ∷ y) → (a ≡ c) × (n ≤ common x y)
unfolding common
common_head a c n x y = go (eqb a c) refl
  where
    go : (q : Bool) → eqb a c ≡ q → suc n ≤ cond q (suc (common x y)) 0 → (a ≡ c) × (n ≤ common x y)
    go true e h = (eqb-true a c e, omega arith)
    go false e h = absurd (omega arith)

-- the rest, where i are in common
pub common_drop : (i : ℕ) (x y : List ℕ) → i ≤ common x y → common x y ≡ i + common (drop i x) (drop i y)
unfolding common
common_drop zero x y h = omega arith
common_drop (suc i) [] y h = absurd (omega arith)
common_drop (suc i) (a ∷ x) [] h = absurd (omega arith)
common_drop (suc i) (a ∷ x) (c ∷ y) h =
    let k = common_head a c i x y h in
    rw (eq-eqb a c k.0, common_drop i x y k.1) (omega arith)

pub order_drop : (i : ℕ) (x y : List ℕ) → i ≤ common x y → order x y ≡ order (drop i x) (drop i y)
unfolding common order
order_drop zero x y h = refl
order_drop (suc i) [] y h = absurd (omega arith)
order_drop (suc i) (a ∷ x) [] h = absurd (omega arith)
order_drop (suc i) (a ∷ x) (c ∷ y) h =
    let k = common_head a c i x y h in
    rw (le-ltb a c (omega (arith, k.0)), le-ltb c a (omega (arith, k.0))) (order_drop i x y k.1)

-- what is in common is the same
pub common_take : (n : ℕ) (x y : List ℕ) → n ≤ common x y → take n x ≡ take n y
unfolding common
common_take zero x y h = refl
common_take (suc n) [] y h = absurd (omega arith)
common_take (suc n) (a ∷ x) [] h = absurd (omega arith)
common_take (suc n) (a ∷ x) (c ∷ y) h = let k = common_head a c n x y h in ap₂ ◌∷◌ k.0 (common_take n x y k.1)

-- as many are in common as are the same
pub take_common : (n : ℕ) (x y : List ℕ) → n ≤ length x → n ≤ length y → take n x ≡ take n y → n ≤ common x y
unfolding common
take_common zero x y h k e = omega arith
take_common (suc n) [] y h k e = absurd (omega arith)
take_common (suc n) (a ∷ x) [] h k e = absurd (omega arith)
take_common (suc n) (a ∷ x) (c ∷ y) h k e =
    let i = take_common n x y (omega arith) (omega arith) (ap (λ (l : List ℕ). drop 1 l) e) in
    rw (eq-eqb a c (ap (λ (l : List ℕ). get_or l 0 0) e)) (omega arith)

module _ (x y : List ℕ) (i : ℕ) (h : i ≤ common x y) where
  -- k more
  pub common_more : (k : ℕ) → i + k ≤ length x → i + k ≤ length y → take k (drop i x) ≡ take k (drop i y) → i + k ≤ common x y
  common_more k l m e =
      let n = take_common k (drop i x) (drop i y) (omega (arith, length-drop i x)) (omega (arith, length-drop i y)) e in
      omega (arith, common_drop i x y h)

  module _ (l : i < length x) (m : i < length y) where
    -- one more
    pub common_next : get_or x i 0 ≡ get_or y i 0 → i + 1 ≤ common x y
    common_next e =
        common_more 1 (omega arith) (omega arith) (rw (drop-cons x i 0 l, drop-cons y i 0 m, e))

    -- no more
    pub common_stop : (get_or x i 0 ≡ get_or y i 0 → ⊥) → i ≡ common x y
    common_stop n =
        let e : common x y ≡ i + common (drop i x) (drop i y) = common_drop i x y h in
        let z : common (drop i x) (drop i y) ≡ 0 = rw (drop-cons x i 0 l, drop-cons y i 0 m) (common_apart _ _ _ _ n) in
        omega arith

  pub common_end : (n : ℕ) → n ≡ min (length x) (length y) → n ≤ i → i ≡ common x y
  common_end n e l =
      min_cases (length x) (length y) (i ≡ common x y) (λ p q. omega (arith, common_left x y)) (λ p q. omega (arith, common_right x y))

-- one list is the beginning of the other
pub common_left_all : (x y : List ℕ) → length x ≤ length y → eqb (common x y) (length x) ≡ same x (take (length x) y)
common_left_all x y l = go (same x (take (length x) y)) refl
  where
    go : (z : Bool) → same x (take (length x) y) ≡ z → eqb (common x y) (length x) ≡ z
    go true e =
        let n = take_common (length x) x y (omega arith) l (take-length x ∙ same_eq x (take (length x) y) e) in
        eq-eqb (common x y) (length x) (omega (arith, common_left x y))
    go false e = ne_eqb (common x y) (length x) (λ f. true≢false
        (sym (eq_same x (take (length x) y) (sym (take-length x) ∙ common_take (length x) x y (omega arith))) ∙ e))

pub common_right_all : (x y : List ℕ) → length y ≤ length x → eqb (common x y) (length y) ≡ same (take (length y) x) y
common_right_all x y l = go (same (take (length y) x) y) refl
  where
    go : (z : Bool) → same (take (length y) x) y ≡ z → eqb (common x y) (length y) ≡ z
    go true e =
        let n = take_common (length y) x y l (omega arith) (same_eq (take (length y) x) y e ∙ sym (take-length y)) in
        eq-eqb (common x y) (length y) (omega (arith, common_right x y))
    go false e = ne_eqb (common x y) (length y) (λ f. true≢false
        (sym (eq_same (take (length y) x) y (common_take (length y) x y (omega arith) ∙ take-length y)) ∙ e))

-- THE ORDER of two lists, told by what follows behind what they have in common
module _ (x y : List ℕ) (c : ℕ) (e : c ≡ common x y) where
  order_behind : order x y ≡ order (drop c x) (drop c y)
  order_behind = order_drop c x y (omega arith)

  pub past_equal : length x ≤ c → length y ≤ c → Equal ≡ order x y
  unfolding order
  past_equal h k = sym (order_behind ∙ rw (drop_of_length-le x h, drop_of_length-le y k))

  pub past_shorter : length x ≤ c → c < length y → Less ≡ order x y
  unfolding order
  past_shorter h k = sym (order_behind ∙ rw (drop_of_length-le x h, drop-cons y c 0 k))

  pub past_longer : c < length x → length y ≤ c → Greater ≡ order x y
  unfolding order
  past_longer h k = sym (order_behind ∙ rw (drop-cons x c 0 h, drop_of_length-le y k))

  module _ (h : c < length x) (k : c < length y) where
    pub past_less : get_or x c 0 < get_or y c 0 → Less ≡ order x y
    unfolding order
    past_less l = sym (order_behind ∙ rw (drop-cons x c 0 h, drop-cons y c 0 k, lt-ltb (get_or x c 0) (get_or y c 0) l))

    pub apart : get_or x c 0 ≡ get_or y c 0 → ⊥
    apart f = let n = common_next x y c (omega arith) h k f in omega arith

    pub past_greater : get_or y c 0 ≤ get_or x c 0 → Greater ≡ order x y
    unfolding order
    past_greater l =
        let m : get_or y c 0 < get_or x c 0 = omega (arith, apart) in
        sym (order_behind ∙ rw (drop-cons x c 0 h, drop-cons y c 0 k, le-ltb (get_or x c 0) (get_or y c 0) l, lt-ltb (get_or y c 0) (get_or x c 0) m))

no_rest : (a : ℕ) (x : List ℕ) → order (a ∷ x) [] ≡ Greater
unfolding order
no_rest a x = refl

-- heads of lists that stand in their order
head_le : (a c : ℕ) (x m : List ℕ) → (order (a ∷ x) (c ∷ m) ≡ Greater → ⊥) → a ≤ c
unfolding order
head_le a c x m g = go (ltb c a) refl
  where
    go : (q : Bool) → ltb c a ≡ q → a ≤ c
    go true e = let l : c < a = ltb-true c a e in absurd (g (rw (le-ltb a c (omega arith), lt-ltb c a l)))
    go false e = ltb-false c a e

tails : (a c : ℕ) (x m : List ℕ) → a ≡ c → order (a ∷ x) (c ∷ m) ≡ order x m
unfolding order
tails a c x m e = rw (le-ltb a c (omega arith), le-ltb c a (omega arith))

-- between two lists that have n elements in common with w, every list has
pub common_between : (n : ℕ) (x m y w : List ℕ) → (order x m ≡ Greater → ⊥) → (order m y ≡ Greater → ⊥) → n ≤ common x w → n ≤ common y w → n ≤ common m w
unfolding common
common_between zero x m y w g h p q = omega arith
common_between (suc n) [] m y w g h p q = absurd (omega arith)
common_between (suc n) (a ∷ x) m [] w g h p q = absurd (omega arith)
common_between (suc n) (a ∷ x) m (d ∷ y) [] g h p q = absurd (omega arith)
common_between (suc n) (a ∷ x) [] (d ∷ y) (v ∷ w) g h p q = absurd (g (no_rest a x))
common_between (suc n) (a ∷ x) (c ∷ m) (d ∷ y) (v ∷ w) g h p q =
    let i = common_head a v n x w p in
    let j = common_head d v n y w q in
    let lo : a ≤ c = head_le a c x m g in
    let hi : c ≤ d = head_le c d m y h in
    let ac : a ≡ c = omega (arith, i.0, j.0) in
    let cd : c ≡ d = omega (arith, i.0, j.0) in
    let r = common_between n x m y w (λ e. g (tails a c x m ac ∙ e)) (λ e. h (tails c d m y cd ∙ e)) i.1 j.1 in
    rw (eq-eqb c v (omega (arith, i.0))) (omega arith)
