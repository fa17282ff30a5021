-- Ordered insertion and removal.
-- Assumes nothing.
use Prim.Native.Nat.{ℕ, suc, ◌+◌, ◌≤◌}
use mathlib.Core.Path.{◌≡◌, refl, ap}
use mathlib.Core.Bool.{Bool, true, false, cond, true≢false}
use mathlib.Core.List.{List, [], ◌∷◌, ◌++◌}
use mathlib.Core.Option.{some}
use native.Mathlib.Omega.{arith}
use lib.ListN.{length}
use Rattle.model.specs.Sets.{Key, before, same_key, held, sum_of, lookup, insert, remove, Each, AllPairs, Sorted}
use Rattle.model.proofs.Lists.{each_map}
use Rattle.model.proofs.KeyOrders.{before_trans, before_turn, same_key_refl}

module _ {E : Type 0} (key : E → Key) where
  -- no entry has the key
  abbrev pub Absent : Key → List E → Type 0
  Absent k xs = Each (λ (x : E). same_key k (key x) ≡ false) xs

  pub absent : (k : Key) (xs : List E) → held (lookup key k xs) ≡ false → Absent k xs
  unfolding lookup
  absent k [] h = tt
  absent k (x ∷ xs) h = go (same_key k (key x)) refl h (absent k xs)
    where
      go :
          (b : Bool) → same_key k (key x) ≡ b → held (cond b (some x) (lookup key k xs)) ≡ false →
          (held (lookup key k xs) ≡ false → Absent k xs) →
          (same_key k (key x) ≡ false) × Absent k xs
      go true e h k = absurd (true≢false h)
      go false e h k = (e, k h)

  -- WHERE IT STANDS: before all others, or behind those that it is not before
  pub insert_front : (e : E) (xs : List E) → Each (λ (x : E). before (key e) (key x) ≡ true) xs → insert key e xs ≡ e ∷ xs
  unfolding insert
  insert_front e [] h = refl
  insert_front e (x ∷ xs) h = rw h.0

  pub insert_past : (e : E) (xs ys : List E) → Each (λ (x : E). before (key e) (key x) ≡ false) xs →
      insert key e (xs ++ ys) ≡ xs ++ insert key e ys
  unfolding insert
  insert_past e [] ys h = refl
  insert_past e (x ∷ xs) ys h = rw h.0 (ap (λ (l : List E). x ∷ l) (insert_past e xs ys h.1))

  -- WHAT IT KEEPS
  pub each_insert : (P : E → Type 0) (e : E) (xs : List E) → P e → Each P xs → Each P (insert key e xs)
  unfolding insert
  each_insert P e [] p a = (p, tt)
  each_insert P e (x ∷ xs) p a = go (before (key e) (key x)) (each_insert P e xs p a.1)
    where
      go : (b : Bool) → Each P (insert key e xs) → Each P (cond b (e ∷ x ∷ xs) (x ∷ insert key e xs))
      go true h = (p, a)
      go false h = (a.0, h)

  pub pairs_insert :
      (R : E → E → Type 0) (e : E) (xs : List E) → Each (R e) xs → Each (λ (x : E). R x e) xs → AllPairs R xs → AllPairs R (insert key e xs)
  unfolding insert
  pairs_insert R e [] l r a = (tt, tt)
  pairs_insert R e (x ∷ xs) l r a = go (before (key e) (key x)) (pairs_insert R e xs l.1 r.1 a.1)
    where
      go : (b : Bool) → AllPairs R (insert key e xs) → AllPairs R (cond b (e ∷ x ∷ xs) (x ∷ insert key e xs))
      go true h = (l, a)
      go false h = (each_insert (R x) e xs r.0 a.0, h)

  -- an insertion keeps the order and the uniqueness of the keys
  pub sorted_insert : (e : E) (xs : List E) → Absent (key e) xs → Sorted key xs → Sorted key (insert key e xs)
  unfolding insert
  sorted_insert e [] f a = (tt, tt)
  sorted_insert e (x ∷ xs) f a = go (before (key e) (key x)) refl (sorted_insert e xs f.1 a.1)
    where
      go : (b : Bool) → before (key e) (key x) ≡ b → Sorted key (insert key e xs) → Sorted key (cond b (e ∷ x ∷ xs) (x ∷ insert key e xs))
      go true m h = (
        (
          m,
          each_map (λ (y : E). before (key x) (key y) ≡ true) (λ (y : E). before (key e) (key y) ≡ true) xs
              (λ y l. before_trans (key e) (key x) (key y) m l) a.0,
        ),
        a,
      )
      go false m h = (each_insert (λ (y : E). before (key x) (key y) ≡ true) e xs (before_turn (key e) (key x) m f.0) a.0, h)

  pub each_remove : (P : E → Type 0) (k : Key) (xs : List E) → Each P xs → Each P (remove key k xs)
  unfolding remove
  each_remove P k [] a = tt
  each_remove P k (x ∷ xs) a = go (same_key k (key x)) (each_remove P k xs a.1)
    where
      go : (b : Bool) → Each P (remove key k xs) → Each P (cond b xs (x ∷ remove key k xs))
      go true h = a.1
      go false h = (a.0, h)

  -- a removal keeps what holds of every two entries: the order too
  pub pairs_remove : (R : E → E → Type 0) (k : Key) (xs : List E) → AllPairs R xs → AllPairs R (remove key k xs)
  unfolding remove
  pairs_remove R k [] a = tt
  pairs_remove R k (x ∷ xs) a = go (same_key k (key x)) (pairs_remove R k xs a.1)
    where
      go : (b : Bool) → AllPairs R (remove key k xs) → AllPairs R (cond b xs (x ∷ remove key k xs))
      go true h = a.1
      go false h = (each_remove (R x) k xs a.0, h)

  pub sorted_remove : (k : Key) (xs : List E) → Sorted key xs → Sorted key (remove key k xs)
  sorted_remove k xs a = pairs_remove (λ (x y : E). before (key x) (key y) ≡ true) k xs a

  pub length_insert : (e : E) (xs : List E) → length (insert key e xs) ≡ suc (length xs)
  unfolding insert
  length_insert e [] = refl
  length_insert e (x ∷ xs) = go (before (key e) (key x)) (length_insert e xs)
    where
      go : (b : Bool) → length (insert key e xs) ≡ suc (length xs) → length (cond b (e ∷ x ∷ xs) (x ∷ insert key e xs))
          ≡ suc (suc (length xs))
      go true h = refl
      go false h = ap suc h

  pub length_remove : (k : Key) (xs : List E) → length (remove key k xs) ≤ length xs
  unfolding remove
  length_remove k [] = omega arith
  length_remove k (x ∷ xs) = go (same_key k (key x)) (length_remove k xs)
    where
      go : (b : Bool) → length (remove key k xs) ≤ length xs → length (cond b xs (x ∷ remove key k xs)) ≤ suc (length xs)
      go true h = omega arith
      go false h = omega arith

  pub sum_insert : (f : E → ℕ) (e : E) (xs : List E) → sum_of f (insert key e xs) ≡ f e + sum_of f xs
  unfolding insert sum_of
  sum_insert f e [] = refl
  sum_insert f e (x ∷ xs) = go (before (key e) (key x)) (sum_insert f e xs)
    where
      go : (b : Bool) → sum_of f (insert key e xs) ≡ f e + sum_of f xs → sum_of f (cond b (e ∷ x ∷ xs) (x ∷ insert key e xs))
          ≡ f e + (f x + sum_of f xs)
      go true h = refl
      go false h = omega arith

  pub sum_remove : (f : E → ℕ) (k : Key) (xs : List E) → sum_of f (remove key k xs) ≤ sum_of f xs
  unfolding remove sum_of
  sum_remove f k [] = omega arith
  sum_remove f k (x ∷ xs) = go (same_key k (key x)) (sum_remove f k xs)
    where
      go : (b : Bool) → sum_of f (remove key k xs) ≤ sum_of f xs → sum_of f (cond b xs (x ∷ remove key k xs)) ≤ f x + sum_of f xs
      go true h = omega arith
      go false h = omega arith

  -- what was put in is found
  pub lookup_insert : (e : E) (xs : List E) → Absent (key e) xs → lookup key (key e) (insert key e xs) ≡ some e
  unfolding insert lookup
  lookup_insert e [] f = rw (same_key_refl (key e))
  lookup_insert e (x ∷ xs) f = go (before (key e) (key x)) (lookup_insert e xs f.1)
    where
      go : (b : Bool) → lookup key (key e) (insert key e xs) ≡ some e → lookup key (key e) (cond b (e ∷ x ∷ xs) (x ∷ insert key e xs))
          ≡ some e
      go true h = rw (same_key_refl (key e))
      go false h = rw f.0 h

  -- what was put in and taken out again leaves the set as it was
  pub remove_insert : (e : E) (xs : List E) → Absent (key e) xs → remove key (key e) (insert key e xs) ≡ xs
  unfolding insert remove
  remove_insert e [] f = rw (same_key_refl (key e))
  remove_insert e (x ∷ xs) f = go (before (key e) (key x)) (remove_insert e xs f.1)
    where
      go : (b : Bool) → remove key (key e) (insert key e xs) ≡ xs → remove key (key e) (cond b (e ∷ x ∷ xs) (x ∷ insert key e xs)) ≡ x ∷ xs
      go true h = rw (same_key_refl (key e))
      go false h = rw f.0 (ap (λ (l : List E). x ∷ l) h)
