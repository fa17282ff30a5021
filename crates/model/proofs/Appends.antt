-- Lists one behind the other; the entries that pass a test, and the others: every two of them, how many they are, what they sum up to.
-- Assumes nothing.
use Prim.Native.Nat.{ℕ, suc, ◌+◌, ◌-◌, ◌≤◌}
use mathlib.Core.Path.{◌≡◌, refl, ap, ap₂, sym, ◌∙◌}
use mathlib.Core.Bool.{Bool, true, false, not, cond}
use mathlib.Core.List.{List, [], ◌∷◌, ◌++◌}
use native.Mathlib.Omega.{arith}
use lib.ListN.{length, take, drop, take-append-drop}
use lib.Seq.{drop-drop}
use Rattle.model.specs.Sets.{filter, sum_of, Each, AllPairs}
use Rattle.model.proofs.Lists.{each_both, each_append, each_left, each_right}

module _ {E : Type 0} where
  -- EVERY TWO ENTRIES
  pub pairs_append : (R : E → E → Type 0) (xs ys : List E) → AllPairs R xs → AllPairs R ys → Each (λ (x : E). Each (R x) ys) xs →
      AllPairs R (xs ++ ys)
  pairs_append R [] ys a b c = b
  pairs_append R (x ∷ xs) ys a b c = (each_append (R x) xs ys a.0 c.0, pairs_append R xs ys a.1 b c.1)

  pub pairs_left : (R : E → E → Type 0) (xs ys : List E) → AllPairs R (xs ++ ys) → AllPairs R xs
  pairs_left R [] ys a = tt
  pairs_left R (x ∷ xs) ys a = (each_left (R x) xs ys a.0, pairs_left R xs ys a.1)

  pub pairs_right : (R : E → E → Type 0) (xs ys : List E) → AllPairs R (xs ++ ys) → AllPairs R ys
  pairs_right R [] ys a = a
  pairs_right R (x ∷ xs) ys a = pairs_right R xs ys a.1

  -- one of the first list, one of the second
  pub pairs_across : (R : E → E → Type 0) (xs ys : List E) → AllPairs R (xs ++ ys) → Each (λ (x : E). Each (R x) ys) xs
  pairs_across R [] ys a = tt
  pairs_across R (x ∷ xs) ys a = (each_right (R x) xs ys a.0, pairs_across R xs ys a.1)

  -- one of each list, in the other order
  pub each_swap : (R : E → E → Type 0) (xs ys : List E) → Each (λ (x : E). Each (R x) ys) xs → Each (λ (y : E). Each (λ (x : E). R x y) xs) ys
  each_swap R [] ys h = nothing ys
    where
      nothing : (zs : List E) → Each (λ (z : E). Unit {0}) zs
      nothing [] = tt
      nothing (z ∷ zs) = (tt, nothing zs)
  each_swap R (x ∷ xs) ys h =
      each_both (R x) (λ (y : E). Each (λ (z : E). R z y) xs) (λ (y : E). Each (λ (z : E). R z y) (x ∷ xs)) ys (λ y a b. (a, b)) h.0
      (each_swap R xs ys h.1)

  -- A LIST IN THREE, cut at f and at t
  pub run_split : (f t : ℕ) (xs : List E) → f ≤ t → take f xs ++ (take (t - f) (drop f xs) ++ drop t xs) ≡ xs
  run_split f t xs l =
      let e : t ≡ f + (t - f) = omega arith in
      ap (λ (ys : List E). take f xs ++ (take (t - f) (drop f xs) ++ ys)) (ap (λ (n : ℕ). drop n xs) e ∙ sym (drop-drop (t - f) f xs))
      ∙ ap (λ (ys : List E). take f xs ++ ys) (take-append-drop (t - f) (drop f xs))
      ∙ take-append-drop f xs

  -- THOSE THAT PASS. Each of them does
  pub filter_passes : (p : E → Bool) (xs : List E) → Each (λ (x : E). p x ≡ true) (filter p xs)
  unfolding filter
  filter_passes p [] = tt
  filter_passes p (x ∷ xs) = go (p x) refl (filter_passes p xs)
    where
      go : (b : Bool) → p x ≡ b → Each (λ (y : E). p y ≡ true) (filter p xs) →
          Each (λ (y : E). p y ≡ true) (cond b (x ∷ filter p xs) (filter p xs))
      go true e h = (e, h)
      go false e h = h

  -- where none is among them, none passes
  pub filter_nothing : (p : E → Bool) (xs : List E) → length (filter p xs) ≤ 0 → Each (λ (x : E). p x ≡ false) xs
  unfolding filter
  filter_nothing p [] h = tt
  filter_nothing p (x ∷ xs) h = go (p x) refl h (filter_nothing p xs)
    where
      go : (b : Bool) → p x ≡ b → length (cond b (x ∷ filter p xs) (filter p xs)) ≤ 0 →
          (length (filter p xs) ≤ 0 → Each (λ (y : E). p y ≡ false) xs) → (p x ≡ false) × Each (λ (y : E). p y ≡ false) xs
      go true e h ih = absurd (omega arith)
      go false e h ih = (e, ih h)

  -- one test in two forms
  pub filter_same : (p q : E → Bool) → ((x : E) → p x ≡ q x) → (xs : List E) → filter p xs ≡ filter q xs
  unfolding filter
  filter_same p q e [] = refl
  filter_same p q e (x ∷ xs) = ap₂ (λ (b : Bool) (l : List E). cond b (x ∷ l) l) (e x) (filter_same p q e xs)

  -- AND THE OTHERS
  module _ (p : E → Bool) where
    pub length_parted : (xs : List E) → length (filter p xs) + length (filter (λ (x : E). not (p x)) xs) ≡ length xs
    unfolding filter
    length_parted [] = refl
    length_parted (x ∷ xs) = go (p x) (length_parted xs)
      where
        others : List E
        others = filter (λ (y : E). not (p y)) xs

        go : (b : Bool) → length (filter p xs) + length others ≡ length xs →
            length (cond b (x ∷ filter p xs) (filter p xs)) + length (cond (not b) (x ∷ others) others) ≡ suc (length xs)
        go true h = omega arith
        go false h = omega arith

    pub sum_parted : (f : E → ℕ) (xs : List E) → sum_of f (filter p xs) + sum_of f (filter (λ (x : E). not (p x)) xs) ≡ sum_of f xs
    unfolding filter sum_of
    sum_parted f [] = refl
    sum_parted f (x ∷ xs) = go (p x) (sum_parted f xs)
      where
        others : List E
        others = filter (λ (y : E). not (p y)) xs

        go : (b : Bool) → sum_of f (filter p xs) + sum_of f others ≡ sum_of f xs →
            sum_of f (cond b (x ∷ filter p xs) (filter p xs)) + sum_of f (cond (not b) (x ∷ others) others) ≡ f x + sum_of f xs
        go true h = omega arith
        go false h = omega arith
