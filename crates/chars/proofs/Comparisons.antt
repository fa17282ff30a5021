-- Two texts compared side by side, at the position i.
-- Assumes nothing.
use mathlib.Core.Path.{◌≡◌, refl, ap, sym, ◌∙◌}
use mathlib.Core.Bool.{Bool, true, false, ◌&&◌, false≢true, true≢false}
use mathlib.Core.List.{List, [], ◌∷◌, map}
use Prim.Native.Nat.{ℕ, suc, ◌+◌, ◌≤◌, ◌<◌, min}
use native.Mathlib.Numerals.{add-one}
use native.Mathlib.Omega.{arith, min_cases}
use lib.Dec.{eqb}
use lib.ListN.{length, drop, get_or, drop_of_length-le}
use lib.Seq.{drop-cons}
use borrow.Author.Tests.{lt-ltb, le-ltb}
use Rattle.std.specs.declared.cmp.Ordering.{Ordering}
use Rattle.std.specs.declared.cmp.Ordering.TheVariants.{Less, Equal, Greater}
use Rattle.std.specs.Ordering.{is_ne, nat_cmp, ordering_then}
use Rattle.std.proofs.lemmas.Cmp.{ranked, by_ranked}
use Rattle.chars.specs.Lists.{same}
use Rattle.chars.specs.Folding.{lower, equivalent, order}

pub lengths_differ : (a b : List ℕ) → (length a ≡ length b → ⊥) → equivalent a b ≡ false
unfolding equivalent same
lengths_differ [] [] h = absurd (h refl)
lengths_differ [] (y ∷ b) h = refl
lengths_differ (x ∷ a) [] h = refl
lengths_differ (x ∷ a) (y ∷ b) h = go (eqb (lower x) (lower y)) (lengths_differ a b (λ e. h (ap suc e)))
  where
    go : (q : Bool) → equivalent a b ≡ false → (q && equivalent a b) ≡ false
    go true e = e
    go false e = refl

module _ (a b : List ℕ) (i : ℕ) where
  -- t tells whether the bytes at i are the same, folded
  pub equivalent_at : (t : Bool) → i < length a → i < length b → t ≡ eqb (lower (get_or a i 0)) (lower (get_or b i 0))
      → equivalent (drop i a) (drop i b) ≡ t && equivalent (drop (i + 1) a) (drop (i + 1) b)
  unfolding equivalent same
  equivalent_at t h g e = rw (add-one, drop-cons a i 0 h, drop-cons b i 0 g, e)

  pub equivalent_end : length a ≤ i → length b ≤ i → equivalent (drop i a) (drop i b) ≡ true
  unfolding equivalent same
  equivalent_end h g = rw (drop_of_length-le a h, drop_of_length-le b g)

-- the first order decides where it tells two apart
then_first : (o p : Ordering) → is_ne o ≡ true → o ≡ ordering_then o p
then_first Less p z = refl
then_first Equal p z = absurd (false≢true z)
then_first Greater p z = refl

then_second : (o p : Ordering) → is_ne o ≡ false → ordering_then o p ≡ p
then_second Less p z = absurd (true≢false z)
then_second Equal p z = refl
then_second Greater p z = absurd (true≢false z)

-- the order of two texts under a map of their bytes
module _ (f : ℕ → ℕ) (a b : List ℕ) (i : ℕ) where
  -- o tells how the bytes at i stand to each other, mapped
  module _ (o : Ordering) (h : i < length a) (g : i < length b) (e : o ≡ nat_cmp (f (get_or a i 0)) (f (get_or b i 0))) where
    order_at : order (map f (drop i a)) (map f (drop i b)) ≡ ordering_then o (order (map f (drop (i + 1) a)) (map f (drop (i + 1) b)))
    unfolding order
    order_at =
        let x = f (get_or a i 0) in
        let y = f (get_or b i 0) in
        rw (add-one, drop-cons a i 0 h, drop-cons b i 0 g)
        (by_ranked (x < y) (x ≡ y) (y < x) o (ranked x y o e)
        (λ z l. rw (z, lt-ltb x y l))
        (λ z l. rw (z, l, le-ltb y y (omega arith)))
        (λ z l. rw (z, le-ltb x y (omega arith), lt-ltb y x l)))

    pub order_differs : is_ne o ≡ true → o ≡ order (map f (drop i a)) (map f (drop i b))
    order_differs z = then_first o _ z ∙ sym order_at

    pub order_next : is_ne o ≡ false → order (map f (drop i a)) (map f (drop i b)) ≡ order (map f (drop (i + 1) a)) (map f (drop (i + 1) b))
    order_next z = order_at ∙ then_second o _ z

  pub order_end : length a ≤ i → length b ≤ i → order (map f (drop i a)) (map f (drop i b)) ≡ Equal
  unfolding order
  order_end h g = rw (drop_of_length-le a h, drop_of_length-le b g)

  pub order_shorter : length a ≤ i → i < length b → order (map f (drop i a)) (map f (drop i b)) ≡ Less
  unfolding order
  order_shorter h g = rw (drop_of_length-le a h, drop-cons b i 0 g)

  pub order_longer : i < length a → length b ≤ i → order (map f (drop i a)) (map f (drop i b)) ≡ Greater
  unfolding order
  order_longer h g = rw (drop-cons a i 0 h, drop_of_length-le b g)

  -- o tells how long they are, and one of them ends at i
  pub order_ends : i ≤ length a → i ≤ length b → min (length a) (length b) ≤ i → (o : Ordering) → o ≡ nat_cmp (length a) (length b)
      → order (map f (drop i a)) (map f (drop i b)) ≡ o
  order_ends h g m o e =
      by_ranked (length a < length b) (length a ≡ length b) (length b < length a) o (ranked (length a) (length b) o e)
      (λ z l. order_shorter (omega (arith, min_cases)) (omega (arith, min_cases)) ∙ sym z)
      (λ z l. order_end (omega (arith, min_cases)) (omega (arith, min_cases)) ∙ sym z)
      (λ z l. order_longer (omega (arith, min_cases)) (omega (arith, min_cases)) ∙ sym z)
