-- Entries put into a set one after the other: what is held then, how many, how much, and where they stand.
-- Assumes nothing.
use Prim.Native.Nat.{ℕ, suc, ◌+◌}
use native.Mathlib.Omega.{arith}
use mathlib.Core.Path.{◌≡◌, refl, sym, ap, ◌∙◌}
use mathlib.Core.Bool.{Bool, true, false, ◌||◌, cond, true≢false}
use mathlib.Core.List.{List, [], ◌∷◌, ◌++◌, append_assoc, append-nil}
use mathlib.Core.Option.{none, some}
use lib.ListN.{length}
use Rattle.base.proofs.Bools.{or_true, not_passing}
use Rattle.model.specs.Sets.{Key, before, same_key, held, any, filter, lookup, insert, sum_of, Each, AllPairs, Sorted}
use Rattle.model.proofs.Lists.{each_map, each_both, each_append, each_all, each_filter, pairs_map}
use Rattle.model.proofs.KeyOrders.{before_trans, before_asym, same_key_sym, before_not_same}
use Rattle.model.proofs.Sets.{Absent, each_insert, insert_front, insert_past, sorted_insert, length_insert, sum_insert}

or_swap : (a b c : Bool) → ((a || b) || c) ≡ (b || (a || c))
or_swap true true c = refl
or_swap true false c = refl
or_swap false true c = refl
or_swap false false c = refl

module _ {E : Type 0} (key : E → Key) where
  -- es put in one after the other
  unfoldable pub all_in : List E → List E → List E
  all_in [] xs = xs
  all_in (e ∷ es) xs = all_in es (insert key e xs)

  -- a key is held after e is put in where it is e's, or was held
  pub held_insert : (k : Key) (e : E) (xs : List E) → held (lookup key k (insert key e xs)) ≡ (same_key k (key e) || held (lookup key k xs))
  unfolding insert lookup
  held_insert k e [] = go (same_key k (key e))
    where
      go : (b : Bool) → held (cond b (some e) none) ≡ (b || false)
      go true = refl
      go false = refl
  held_insert k e (x ∷ xs) = go (before (key e) (key x)) (same_key k (key e)) (same_key k (key x)) refl refl (held_insert k e xs)
    where
      go : (b c d : Bool) → same_key k (key e) ≡ c → same_key k (key x) ≡ d →
          held (lookup key k (insert key e xs)) ≡ (same_key k (key e) || held (lookup key k xs)) →
          held (lookup key k (cond b (e ∷ x ∷ xs) (x ∷ insert key e xs))) ≡ (c || held (cond d (some x) (lookup key k xs)))
      go true true d p q ih = rw p
      go true false d p q ih = rw (p, q)
      go false c true p q ih = rw q (sym (or_true c))
      go false c false p q ih = rw q (ih ∙ ap (λ (b : Bool). b || held (lookup key k xs)) p)

  -- after all of es: where one of es has the key, or it was held
  pub held_all : (k : Key) (es xs : List E) → held (lookup key k (all_in es xs)) ≡ (any (λ (e : E). same_key k (key e)) es || held (lookup key k xs))
  unfolding all_in any
  held_all k [] xs = refl
  held_all k (e ∷ es) xs =
      held_all k es (insert key e xs) ∙ ap (λ (b : Bool). any (λ (e : E). same_key k (key e)) es || b) (held_insert k e xs)
      ∙ sym (or_swap (same_key k (key e)) (any (λ (e : E). same_key k (key e)) es) (held (lookup key k xs)))

  pub length_all : (es xs : List E) → length (all_in es xs) ≡ length es + length xs
  unfolding all_in
  length_all [] xs = omega arith
  length_all (e ∷ es) xs =
      let ih : length (all_in es (insert key e xs)) ≡ length es + length (insert key e xs) = length_all es (insert key e xs) in
      let one : length (insert key e xs) ≡ suc (length xs) = length_insert key e xs in
      omega arith

  pub sum_all : (f : E → ℕ) (es xs : List E) → sum_of f (all_in es xs) ≡ sum_of f es + sum_of f xs
  unfolding all_in sum_of
  sum_all f [] xs = omega arith
  sum_all f (e ∷ es) xs =
      let ih : sum_of f (all_in es (insert key e xs)) ≡ sum_of f es + sum_of f (insert key e xs) = sum_all f es (insert key e xs) in
      let one : sum_of f (insert key e xs) ≡ f e + sum_of f xs = sum_insert key f e xs in
      omega arith

  -- entries whose keys are not held, nor twice among themselves
  pub record Fresh (es xs : List E) : Type 0 where
    pub absent : Each (λ (e : E). Absent key (key e) xs) es
    pub apart : AllPairs (λ (e f : E). same_key (key f) (key e) ≡ false) es

  -- the others, when the first is put in
  pub fresh_next : (e : E) (es xs : List E) → Fresh (e ∷ es) xs → Fresh es (insert key e xs)
  fresh_next e es xs f = record {
    absent = each_both (λ (g : E). same_key (key g) (key e) ≡ false) (λ (g : E). Absent key (key g) xs) (λ (g : E). Absent key (key g) (insert key e xs)) es
        (λ g n a. each_insert key (λ (x : E). same_key (key g) (key x) ≡ false) e xs n a) f.apart.0 f.absent.1;
    apart = f.apart.1;
  }

  -- what is sorted is apart
  pub sorted_apart : (es : List E) → Sorted key es → AllPairs (λ (e f : E). same_key (key f) (key e) ≡ false) es
  sorted_apart es s =
      pairs_map (λ (e f : E). before (key e) (key f) ≡ true) (λ (e f : E). same_key (key f) (key e) ≡ false) es
      (λ e f l. not_passing (same_key (key f) (key e)) (λ k. true≢false (sym (same_key_sym (key f) (key e) k) ∙ before_not_same (key e) (key f) l))) s

  -- WHERE THEY STAND: a sorted list put in behind all others stands there as it is
  all_behind : (es xs : List E) → Each (λ (e : E). Each (λ (x : E). before (key x) (key e) ≡ true) xs) es → Sorted key es → all_in es xs ≡ xs ++ es
  unfolding all_in insert
  all_behind [] xs b s = sym (append-nil xs)
  all_behind (e ∷ es) xs b s =
      let put : insert key e xs ≡ xs ++ (e ∷ []) =
      ap (insert key e) (sym (append-nil xs))
      ∙ insert_past key e xs []
      (each_map (λ (x : E). before (key x) (key e) ≡ true) (λ (x : E). before (key e) (key x) ≡ false) xs (λ x l. before_asym (key x) (key e) l) b.0) in
      ap (all_in es) put
      ∙ all_behind es (xs ++ (e ∷ []))
      (each_both (λ (f : E). before (key e) (key f) ≡ true) (λ (f : E). Each (λ (x : E). before (key x) (key f) ≡ true) xs)
      (λ (f : E). Each (λ (x : E). before (key x) (key f) ≡ true) (xs ++ (e ∷ []))) es
      (λ f l k. each_append (λ (x : E). before (key x) (key f) ≡ true) xs (e ∷ []) k (l, tt)) s.0 b.1)
      s.1
      ∙ append_assoc xs (e ∷ []) es

  pub all_alone : (es : List E) → Sorted key es → all_in es [] ≡ es
  all_alone es s = all_behind es [] (each_all (λ (e : E). Unit {0}) (λ e. tt) es) s

  -- THOSE THAT PASS A TEST, where all of them do, or none
  module _ (p : E → Bool) where
    filter_in : (e : E) (xs : List E) → p e ≡ true → Sorted key xs → filter p (insert key e xs) ≡ insert key e (filter p xs)
    unfolding filter insert
    filter_in e [] h s = rw h
    filter_in e (x ∷ xs) h s = go (before (key e) (key x)) refl (p x) refl (filter_in e xs h s.1)
      where
        go : (b : Bool) → before (key e) (key x) ≡ b → (c : Bool) → p x ≡ c → filter p (insert key e xs) ≡ insert key e (filter p xs) →
            filter p (cond b (e ∷ x ∷ xs) (x ∷ insert key e xs)) ≡ insert key e (cond c (x ∷ filter p xs) (filter p xs))
        go true l true m ih = rw (h, m, l)
        go true l false m ih =
            rw (h, m)
            (sym (insert_front key e (filter p xs)
            (each_filter (λ (y : E). before (key x) (key y) ≡ true) (λ (y : E). before (key e) (key y) ≡ true) p xs
            (λ y q k. before_trans (key e) (key x) (key y) l k) s.0)))
        go false l true m ih = rw (m, l) (ap (λ (t : List E). x ∷ t) ih)
        go false l false m ih = rw m ih

    filter_out : (e : E) (xs : List E) → p e ≡ false → filter p (insert key e xs) ≡ filter p xs
    unfolding filter insert
    filter_out e [] h = rw h
    filter_out e (x ∷ xs) h = go (before (key e) (key x)) (p x) refl (filter_out e xs h)
      where
        go : (b c : Bool) → p x ≡ c → filter p (insert key e xs) ≡ filter p xs →
            filter p (cond b (e ∷ x ∷ xs) (x ∷ insert key e xs)) ≡ cond c (x ∷ filter p xs) (filter p xs)
        go true c m ih = rw (h, m)
        go false true m ih = rw m (ap (λ (t : List E). x ∷ t) ih)
        go false false m ih = rw m ih

    pub filter_all_in : (es xs : List E) → Each (λ (e : E). p e ≡ true) es → Fresh es xs → Sorted key xs → filter p (all_in es xs) ≡ all_in es (filter p xs)
    unfolding all_in
    filter_all_in [] xs h f s = refl
    filter_all_in (e ∷ es) xs h f s =
        filter_all_in es (insert key e xs) h.1 (fresh_next e es xs f) (sorted_insert key e xs f.absent.0 s) ∙ ap (all_in es) (filter_in e xs h.0 s)

    pub filter_all_out : (es xs : List E) → Each (λ (e : E). p e ≡ false) es → filter p (all_in es xs) ≡ filter p xs
    unfolding all_in
    filter_all_out [] xs h = refl
    filter_all_out (e ∷ es) xs h = filter_all_out es (insert key e xs) h.1 ∙ filter_out e xs h.0
