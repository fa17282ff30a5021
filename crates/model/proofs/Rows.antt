-- The entries of a set as rows among other rows: an insertion and a removal by the row's number.
-- Assumes nothing.
use Prim.Native.Nat.{suc, ◌+◌, ◌<◌}
use mathlib.Core.Path.{◌≡◌, refl, ap}
use mathlib.Core.Bool.{Bool, true, false, cond}
use mathlib.Core.List.{List, [], ◌∷◌, ◌++◌, map, append_assoc}
use native.Mathlib.Omega.{arith}
use lib.ListN.{length, take, drop}
use lib.Seq.{take-append-add, drop-append-add}
use Rattle.model.specs.Sets.{Key, before, same_key, insert, remove}
use Rattle.model.specs.Places.{first_where, place, spot}

module _ {E R : Type 0} (key : E → Key) (f : E → R) where
  front_insert :
      (e : E) (xs : List E) (b : List R) →
      map f (insert key e xs) ++ b ≡ take (place key (key e) xs) (map f xs ++ b) ++ (f e ∷ drop (place key (key e) xs) (map f xs ++ b))
  unfolding insert first_where
  front_insert e [] b = refl
  front_insert e (x ∷ xs) b = go (before (key e) (key x)) (front_insert e xs b)
    where
      go :
          (t : Bool) → map f (insert key e xs) ++ b
          ≡ take (place key (key e) xs) (map f xs ++ b) ++ (f e ∷ drop (place key (key e) xs) (map f xs ++ b)) →
          map f (cond t (e ∷ x ∷ xs) (x ∷ insert key e xs)) ++ b
          ≡ take (cond t 0 (suc (place key (key e) xs))) (f x ∷ (map f xs ++ b)) ++
          (f e ∷ drop (cond t 0 (suc (place key (key e) xs))) (f x ∷ (map f xs ++ b)))
      go true h = refl
      go false h = ap (λ (l : List R). f x ∷ l) h

  -- rows a, the set's rows, rows b: the new row's number is that of its place, counted from the first row
  pub rows_insert :
      (a b : List R) (e : E) (xs : List E) →
      a ++ (map f (insert key e xs) ++ b)
      ≡ take (length a + place key (key e) xs) (a ++ (map f xs ++ b)) ++
      (f e ∷ drop (length a + place key (key e) xs) (a ++ (map f xs ++ b)))
  rows_insert a b e xs =
      let n = place key (key e) xs in
      rw (
        take-append-add a (map f xs ++ b) n,
        drop-append-add a (map f xs ++ b) n,
        append_assoc a (take n (map f xs ++ b)) (f e ∷ drop n (map f xs ++ b)),
      )
      (ap (λ (l : List R). a ++ l) (front_insert e xs b))

  front_remove :
      (k : Key) (xs : List E) (b : List R) → spot key k xs < length xs →
      map f (remove key k xs) ++ b ≡ take (spot key k xs) (map f xs ++ b) ++ drop (suc (spot key k xs)) (map f xs ++ b)
  unfolding remove first_where
  front_remove k [] b l = absurd (omega arith)
  front_remove k (x ∷ xs) b l = go (same_key k (key x)) l (front_remove k xs b)
    where
      go :
          (t : Bool) → cond t 0 (suc (spot key k xs)) < suc (length xs) →
          (spot key k xs < length xs → map f (remove key k xs) ++ b
          ≡ take (spot key k xs) (map f xs ++ b) ++ drop (suc (spot key k xs)) (map f xs ++ b)) →
          map f (cond t xs (x ∷ remove key k xs)) ++ b
          ≡ take (cond t 0 (suc (spot key k xs))) (f x ∷ (map f xs ++ b)) ++ drop (suc (cond t 0 (suc (spot key k xs))))
          (f x ∷ (map f xs ++ b))
      go true l h = refl
      go false l h = ap (λ (r : List R). f x ∷ r) (h (omega arith))

  pub rows_remove :
      (a b : List R) (k : Key) (xs : List E) → spot key k xs < length xs →
      a ++ (map f (remove key k xs) ++ b)
      ≡ take (length a + spot key k xs) (a ++ (map f xs ++ b)) ++ drop (length a + spot key k xs + 1) (a ++ (map f xs ++ b))
  rows_remove a b k xs l =
      let n = spot key k xs in
      let s : length a + n + 1 ≡ length a + suc n = omega arith in
      rw (
        s,
        take-append-add a (map f xs ++ b) n,
        drop-append-add a (map f xs ++ b) (suc n),
        append_assoc a (take n (map f xs ++ b)) (drop (suc n) (map f xs ++ b)),
      )
      (ap (λ (r : List R). a ++ r) (front_remove k xs b l))
