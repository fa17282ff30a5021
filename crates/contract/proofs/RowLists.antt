-- Every entry and every two entries of a list that was mapped.
-- Assumes nothing.
use mathlib.Core.List.{List, [], ◌∷◌, map}
use Rattle.model.specs.Sets.{Each, AllPairs}

module _ {E F : Type 0} (f : E → F) where
  pub each_of : (P : F → Type 0) → ((x : E) → P (f x)) → (xs : List E) → Each P (map f xs)
  each_of P h [] = tt
  each_of P h (x ∷ xs) = (h x, each_of P h xs)

  each_under : (P : F → Type 0) (xs : List E) → Each (λ (x : E). P (f x)) xs → Each P (map f xs)
  each_under P [] h = tt
  each_under P (x ∷ xs) h = (h.0, each_under P xs h.1)

  pub pairs_under : (R : F → F → Type 0) (xs : List E) → AllPairs (λ (x y : E). R (f x) (f y)) xs → AllPairs R (map f xs)
  pairs_under R [] h = tt
  pairs_under R (x ∷ xs) h = (each_under (R (f x)) xs h.0, pairs_under R xs h.1)
