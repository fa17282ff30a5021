-- Insertion, removal and lookup by the number of an entry; binary search in a sorted set.
-- Assumes nothing.
use Prim.Native.Nat.{suc, ◌≤◌, ◌<◌}
use mathlib.Core.Path.{◌≡◌, refl, ap, sym, ◌∙◌}
use mathlib.Core.Bool.{Bool, true, false, not, cond, true≢false}
use mathlib.Core.List.{List, [], ◌∷◌, ◌++◌}
use mathlib.Core.Option.{none, some}
use native.Mathlib.Omega.{arith}
use lib.ListN.{length, get_or, take, drop}
use borrow.Author.Tests.{not-true}
use Rattle.model.specs.Sets.{Key, before, same_key, lookup, insert, remove, Each, Sorted}
use Rattle.model.specs.Places.{first_where, place, bound, spot}
use Rattle.base.proofs.Bools.{not_passing}
use Rattle.model.proofs.Lists.{pairs_map}
use Rattle.model.proofs.KeyOrders.{before_trans, before_asym, before_turn, before_not_same, same_key_sym}
use Rattle.model.proofs.Walks.{Monotone}

module _ {E : Type 0} (key : E → Key) where
  pub insert_at_lem : (e : E) (xs : List E) → insert key e xs ≡ take (place key (key e) xs) xs ++ (e ∷ drop (place key (key e) xs) xs)
  unfolding insert first_where
  insert_at_lem e [] = refl
  insert_at_lem e (x ∷ xs) = go (before (key e) (key x)) (insert_at_lem e xs)
    where
      go :
          (b : Bool) → insert key e xs ≡ take (place key (key e) xs) xs ++ (e ∷ drop (place key (key e) xs) xs) →
          cond b (e ∷ x ∷ xs) (x ∷ insert key e xs)
          ≡ take (cond b 0 (suc (place key (key e) xs))) (x ∷ xs) ++ (e ∷ drop (cond b 0 (suc (place key (key e) xs))) (x ∷ xs))
      go true h = refl
      go false h = ap (λ (l : List E). x ∷ l) h

  pub remove_at_lem : (k : Key) (xs : List E) → spot key k xs < length xs →
      remove key k xs ≡ take (spot key k xs) xs ++ drop (suc (spot key k xs)) xs
  unfolding remove first_where
  remove_at_lem k [] l = refl
  remove_at_lem k (x ∷ xs) l = go (same_key k (key x)) l (remove_at_lem k xs)
    where
      go :
          (b : Bool) → cond b 0 (suc (spot key k xs)) < suc (length xs) →
          (spot key k xs < length xs → remove key k xs ≡ take (spot key k xs) xs ++ drop (suc (spot key k xs)) xs) →
          cond b xs (x ∷ remove key k xs) ≡ take (cond b 0 (suc (spot key k xs))) (x ∷ xs) ++ drop (suc (cond b 0 (suc (spot key k xs))))
          (x ∷ xs)
      go true l h = refl
      go false l h = ap (λ (r : List E). x ∷ r) (h (omega arith))

  pub lookup_at : (k : Key) (xs : List E) (d : E) → spot key k xs < length xs → lookup key k xs ≡ some (get_or xs (spot key k xs) d)
  unfolding lookup first_where
  lookup_at k [] d l = absurd (omega arith)
  lookup_at k (x ∷ xs) d l = go (same_key k (key x)) l (lookup_at k xs d)
    where
      go :
          (b : Bool) → cond b 0 (suc (spot key k xs)) < suc (length xs) →
          (spot key k xs < length xs → lookup key k xs ≡ some (get_or xs (spot key k xs) d)) →
          cond b (some x) (lookup key k xs) ≡ some (get_or (x ∷ xs) (cond b 0 (suc (spot key k xs))) d)
      go true l h = refl
      go false l h = h (omega arith)

  pub lookup_none : (k : Key) (xs : List E) → length xs ≤ spot key k xs → lookup key k xs ≡ none
  unfolding lookup first_where
  lookup_none k [] l = refl
  lookup_none k (x ∷ xs) l = go (same_key k (key x)) l (lookup_none k xs)
    where
      go : (b : Bool) → suc (length xs) ≤ cond b 0 (suc (spot key k xs)) → (length xs ≤ spot key k xs → lookup key k xs ≡ none) →
          cond b (some x) (lookup key k xs) ≡ none
      go true l h = absurd (omega arith)
      go false l h = h (omega arith)

  -- IN A SORTED SET both tests of a search are monotone: once a key is greater than k, or not before k, all that follow are
  pub greater_monotone : (k : Key) (xs : List E) → Sorted key xs → Monotone (λ (x : E). before k (key x)) xs
  greater_monotone k xs s =
      pairs_map (λ (x y : E). before (key x) (key y) ≡ true) (λ (x y : E). before k (key x) ≡ true → before k (key y) ≡ true) xs
      (λ x y l e. before_trans k (key x) (key y) e l) s

  pub not_before_monotone : (k : Key) (xs : List E) → Sorted key xs → Monotone (λ (x : E). not (before (key x) k)) xs
  not_before_monotone k xs s =
      pairs_map (λ (x y : E). before (key x) (key y) ≡ true) (λ (x y : E). not (before (key x) k) ≡ true → not (before (key y) k) ≡ true) xs
      (λ x y l e. ap not (not_passing (before (key y) k)
      (λ m. true≢false (sym (before_trans (key x) (key y) k l m) ∙ not-true (before (key x) k) e)))) s

  -- the entry that has the key stands at the bound, or there is none
  pub bound_hit : (k : Key) (xs : List E) (d : E) → Sorted key xs → bound key k xs < length xs →
      same_key k (key (get_or xs (bound key k xs) d)) ≡ true → spot key k xs ≡ bound key k xs
  unfolding first_where
  bound_hit k [] d s l e = absurd (omega arith)
  bound_hit k (x ∷ xs) d s l e = go (before (key x) k) refl l e (bound_hit k xs d s.1)
    where
      go :
          (b : Bool) → before (key x) k ≡ b → cond (not b) 0 (suc (bound key k xs)) < suc (length xs) →
          same_key k (key (get_or (x ∷ xs) (cond (not b) 0 (suc (bound key k xs))) d)) ≡ true →
          (bound key k xs < length xs → same_key k (key (get_or xs (bound key k xs) d)) ≡ true → spot key k xs ≡ bound key k xs) →
          cond (same_key k (key x)) 0 (suc (spot key k xs)) ≡ cond (not b) 0 (suc (bound key k xs))
      go true f l e ih = rw (not_passing (same_key k (key x))
          (λ q. true≢false (sym (same_key_sym k (key x) q) ∙ before_not_same (key x) k f))) (ap suc (ih (omega arith) e))
      go false f l e ih = rw e

  pub bound_miss : (k : Key) (xs : List E) (d : E) → Sorted key xs →
      (bound key k xs < length xs → same_key k (key (get_or xs (bound key k xs) d)) ≡ false) → lookup key k xs ≡ none
  unfolding first_where lookup
  bound_miss k [] d s e = refl
  bound_miss k (x ∷ xs) d s e = go (before (key x) k) refl e (bound_miss k xs d s.1)
    where
      go :
          (b : Bool) → before (key x) k ≡ b →
          (cond (not b) 0 (suc (bound key k xs)) < suc (length xs) →
          same_key k (key (get_or (x ∷ xs) (cond (not b) 0 (suc (bound key k xs))) d)) ≡ false) →
          ((bound key k xs < length xs → same_key k (key (get_or xs (bound key k xs) d)) ≡ false) → lookup key k xs ≡ none) →
          cond (same_key k (key x)) (some x) (lookup key k xs) ≡ none
      go true f e ih = rw (not_passing (same_key k (key x)) (λ q. true≢false (sym (same_key_sym k (key x) q) ∙ before_not_same (key x) k f)))
          (ih (λ l. e (omega arith)))
      go false f e ih =
          let n : same_key k (key x) ≡ false = e (omega arith) in
          let g : before k (key x) ≡ true =
          before_turn (key x) k f (not_passing (same_key (key x) k) (λ q. true≢false (sym (same_key_sym (key x) k q) ∙ n))) in
          rw n (none_behind xs s.0 g)
        where
          none_behind : (ys : List E) → Each (λ (y : E). before (key x) (key y) ≡ true) ys → before k (key x) ≡ true →
              lookup key k ys ≡ none
          none_behind [] h g = refl
          none_behind (y ∷ ys) h g = rw (before_not_same k (key y) (before_trans k (key x) (key y) g h.0)) (none_behind ys h.1 g)

  -- where no entry has the key, its bound is its place
  pub bound_place : (k : Key) (xs : List E) → Each (λ (x : E). same_key k (key x) ≡ false) xs → bound key k xs ≡ place key k xs
  unfolding first_where
  bound_place k [] a = refl
  bound_place k (x ∷ xs) a = rw (one, bound_place k xs a.1)
    where
      one : not (before (key x) k) ≡ before k (key x)
      one = go (before k (key x)) refl (before (key x) k) refl
        where
          go : (p : Bool) → before k (key x) ≡ p → (q : Bool) → before (key x) k ≡ q → not q ≡ p
          go true e true f = absurd (true≢false (sym f ∙ before_asym k (key x) e))
          go true e false f = refl
          go false e true f = refl
          go false e false f = absurd (true≢false (sym (before_turn k (key x) e a.0) ∙ f))
