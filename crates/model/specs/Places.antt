-- Where entries stand in a list: for an engine that knows them by number.
-- Assumes nothing.
use Rattle.std.specs.Prelude.{ℕ, suc, Bool, not, cond, List, [], ◌∷◌}
use Rattle.model.specs.Sets.{Key, before, same_key}

module _ {E : Type 0} where
  -- where the first entry stands that passes; the number of entries if none does
  unfoldable pub first_where : (E → Bool) → List E → ℕ
  first_where p [] = 0
  first_where p (x ∷ xs) = cond (p x) 0 (suc (first_where p xs))

  -- the first entry of a greater key: where an entry of the key k is put in
  abbrev pub place : (E → Key) → Key → List E → ℕ
  place key k xs = first_where (λ (x : E). before k (key x)) xs

  -- the first entry whose key is not before k: where binary search for k ends
  abbrev pub bound : (E → Key) → Key → List E → ℕ
  bound key k xs = first_where (λ (x : E). not (before (key x) k)) xs

  -- the entry that has the key
  abbrev pub spot : (E → Key) → Key → List E → ℕ
  spot key k xs = first_where (λ (x : E). same_key k (key x)) xs

  -- how many entries pass, from the first on, before one does not
  abbrev pub lead : (E → Bool) → List E → ℕ
  lead p xs = first_where (λ (x : E). not (p x)) xs
