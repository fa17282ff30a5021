-- Texts of entries, one after the other.
-- Assumes nothing.
use mathlib.Core.Path.{◌≡◌, refl, ap, sym, ◌∙◌}
use mathlib.Core.List.{List, [], ◌∷◌, ◌++◌, map, append_assoc, flat_map}
use Rattle.model.specs.Sets.{Bytes}

module _ {E : Type 0} where
  pub flat_map_append : (f : E → Bytes) (xs ys : List E) → flat_map f (xs ++ ys) ≡ flat_map f xs ++ flat_map f ys
  unfolding flat_map
  flat_map_append f [] ys = refl
  flat_map_append f (x ∷ xs) ys = ap (λ (s : Bytes). f x ++ s) (flat_map_append f xs ys)
      ∙ sym (append_assoc (f x) (flat_map f xs) (flat_map f ys))

  pub flat_map_map : {F : Type 0} (g : F → E) (f : E → Bytes) (h : F → Bytes) → ((x : F) → f (g x) ≡ h x) → (xs : List F) →
      flat_map f (map g xs) ≡ flat_map h xs
  unfolding flat_map
  flat_map_map g f h e [] = refl
  flat_map_map g f h e (x ∷ xs) = rw (e x, flat_map_map g f h e xs)
