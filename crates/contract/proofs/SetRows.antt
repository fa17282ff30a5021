-- The rows of one set among the rows of all: a lookup, an insertion and a removal by the rows' keys is one in the set; how many rows it has.
-- Assumes nothing.
use Prim.Native.Nat.{ℕ, suc, ◌+◌, ◌-◌, ◌/◌, ◌≤◌, ◌<◌}
use mathlib.Core.Path.{◌≡◌, refl, ap, ap₂, sym, ◌∙◌}
use mathlib.Core.Bool.{Bool, true, false, not, cond}
use mathlib.Core.List.{List, [], ◌∷◌, ◌++◌, map, append_assoc}
use mathlib.Core.Option.{Option, none, some}
use native.Mathlib.Omega.{arith}
use lib.Dec.{eqb, ltb}
use lib.ListN.{length, length-append, length-map}
use borrow.Author.Tests.{eqb-true, eqb-false, le-ltb}
use Rattle.chars.specs.Folding.{fold, order}
use Rattle.std.specs.declared.cmp.Ordering.TheVariants.{Equal, Greater}
use Rattle.model.specs.Sets.{Bytes, Key, key_order, then_by, is_less, is_equal, before, same_key, lookup, insert, remove, Each}
use Rattle.model.specs.Places.{first_where, bound}
use Rattle.model.specs.Package.{State}
use Rattle.model.specs.Puts.{put_in, taken_out}
use Rattle.model.proofs.Lists.{each_map, each_append, none_any}
use Rattle.model.proofs.Walks.{first_append_none}
use Rattle.store.specs.Rows.{Row}
use Rattle.contract.specs.Rows.{set_of, second, key_in, set_key, row_key, RowKind, entry_rows, rows_for}
use Rattle.contract.specs.Entries.{row_count}
use Rattle.contract.proofs.RowLists.{each_of}
use Rattle.contract.proofs.RowSearch.{set_less, set_greater, set_same}
use Rattle.contract.proofs.RowKinds.{RowLawful, own_rows}
use Rattle.contract.proofs.RowOrders.{row_less, row_greater}

-- ROWS OF ANOTHER SET
abbrev rest : Row → Bytes
rest r = second (set_of r.tag) r.tag r.f1

-- no row of a lesser or a greater set has a key of the set n
module _ (n : ℕ) (k : Key) where
  lesser_other : (r : Row) → set_of r.tag < n → same_key (set_key n k) (row_key r) ≡ false
  lesser_other r h = ap is_equal (set_greater n (set_of r.tag) k.0 (fold r.f0) k.1 (rest r) h)

  greater_other : (r : Row) → n < set_of r.tag → same_key (set_key n k) (row_key r) ≡ false
  greater_other r h = ap is_equal (set_less n (set_of r.tag) k.0 (fold r.f0) k.1 (rest r) h)

  lesser_after : (r : Row) → set_of r.tag < n → before (set_key n k) (row_key r) ≡ false
  lesser_after r h = ap is_less (set_greater n (set_of r.tag) k.0 (fold r.f0) k.1 (rest r) h)

  greater_before : (r : Row) → n < set_of r.tag → before (set_key n k) (row_key r) ≡ true
  greater_before r h = ap is_less (set_less n (set_of r.tag) k.0 (fold r.f0) k.1 (rest r) h)

-- a text that is empty, or a number that is 0, has none before it
none_less : (s : Bytes) → is_less (order s []) ≡ false
unfolding order
none_less [] = refl
none_less (x ∷ s) = refl

zero_less : (x : ℕ) → is_less (order (x ∷ []) (0 ∷ [])) ≡ false
unfolding order
zero_less x = rw (le-ltb x 0 (omega arith)) (go (ltb 0 x))
  where
    go : (z : Bool) → is_less (cond z Greater Equal) ≡ false
    go true = refl
    go false = refl

texts_before : (s u v : Bytes) → is_less (order u v) ≡ false → before (s, u) ([], v) ≡ false
unfolding key_order then_by order
texts_before [] u v h = h
texts_before (x ∷ s) u v h = refl

-- the row of an entry, where there is one
module _ {E : Type 0} (row : E → Row) where
  abbrev pub row_for : Option E → Option Row
  row_for none = none
  row_for (some x) = some (row x)

-- ONE SET, behind the rows of lesser sets and before those of greater ones
module _ {E : Type 0} (K : RowKind E) (L : RowLawful K) where
  abbrev key : E → Key
  key = K.kind.key

  abbrev row : E → Row
  row = K.row

  abbrev n : ℕ
  n = K.set

  abbrev Below : List Row → Type 0
  Below a = Each (λ (r : Row). set_of r.tag < n) a

  abbrev Above : List Row → Type 0
  Above b = Each (λ (r : Row). n < set_of r.tag) b

  same_is : (k : Key) (x : E) → same_key (set_key n k) (row_key (row x)) ≡ same_key k (key x)
  same_is k x = ap (λ (j : Key). same_key (set_key n k) j) (L.keyed x) ∙ ap is_equal (set_same n k.0 (key x).0 k.1 (key x).1)

  before_is : (x y : E) → before (row_key (row x)) (row_key (row y)) ≡ before (key x) (key y)
  before_is x y = ap₂ before (L.keyed x) (L.keyed y) ∙ ap is_less (set_same n (key x).0 (key y).0 (key x).1 (key y).1)

  module _ (k : Key) where
    lookup_back : (b : List Row) → Above b → lookup row_key (set_key n k) b ≡ none
    unfolding lookup
    lookup_back [] h = refl
    lookup_back (r ∷ b) h = rw (greater_other n k r h.0) (lookup_back b h.1)

    lookup_here : (xs : List E) (b : List Row) → Above b → lookup row_key (set_key n k) (map row xs ++ b) ≡ row_for row (lookup key k xs)
    unfolding lookup
    lookup_here [] b h = lookup_back b h
    lookup_here (x ∷ xs) b h = rw (same_is k x) (go (same_key k (key x)) (lookup_here xs b h))
      where
        go : (t : Bool) → lookup row_key (set_key n k) (map row xs ++ b) ≡ row_for row (lookup key k xs) →
            cond t (some (row x)) (lookup row_key (set_key n k) (map row xs ++ b)) ≡ row_for row (cond t (some x) (lookup key k xs))
        go true e = refl
        go false e = e

    lookup_in : (a b : List Row) (xs : List E) → Below a → Above b →
        lookup row_key (set_key n k) (a ++ (map row xs ++ b)) ≡ row_for row (lookup key k xs)
    unfolding lookup
    lookup_in [] b xs lo hi = lookup_here xs b hi
    lookup_in (r ∷ a) b xs lo hi = rw (lesser_other n k r lo.0) (lookup_in a b xs lo.1 hi)

    pub set_lookup : (S : State) → lookup row_key (set_key n k) (rows_for S) ≡ row_for row (lookup key k (K.kind.entries S))
    set_lookup S =
        ap (lookup row_key (set_key n k)) (own_rows K L S)
        ∙ lookup_in (L.front S) (L.back S) (K.kind.entries S) (L.below S) (L.above S)

    remove_back : (b : List Row) → Above b → remove row_key (set_key n k) b ≡ b
    unfolding remove
    remove_back [] h = refl
    remove_back (r ∷ b) h = rw (greater_other n k r h.0) (ap (λ (l : List Row). r ∷ l) (remove_back b h.1))

    remove_here : (xs : List E) (b : List Row) → Above b → remove row_key (set_key n k) (map row xs ++ b) ≡ map row (remove key k xs) ++ b
    unfolding remove
    remove_here [] b h = remove_back b h
    remove_here (x ∷ xs) b h = rw (same_is k x) (go (same_key k (key x)) (remove_here xs b h))
      where
        go : (t : Bool) → remove row_key (set_key n k) (map row xs ++ b) ≡ map row (remove key k xs) ++ b →
            cond t (map row xs ++ b) (row x ∷ remove row_key (set_key n k) (map row xs ++ b))
            ≡ map row (cond t xs (x ∷ remove key k xs)) ++ b
        go true e = refl
        go false e = ap (λ (l : List Row). row x ∷ l) e

    remove_in : (a b : List Row) (xs : List E) → Below a → Above b →
        remove row_key (set_key n k) (a ++ (map row xs ++ b)) ≡ a ++ (map row (remove key k xs) ++ b)
    unfolding remove
    remove_in [] b xs lo hi = remove_here xs b hi
    remove_in (r ∷ a) b xs lo hi = rw (lesser_other n k r lo.0) (ap (λ (l : List Row). r ∷ l) (remove_in a b xs lo.1 hi))

    pub set_remove : (S : State) → remove row_key (set_key n k) (rows_for S) ≡ rows_for (taken_out K.kind S k)
    set_remove S =
        ap (remove row_key (set_key n k)) (own_rows K L S)
        ∙ remove_in (L.front S) (L.back S) (K.kind.entries S) (L.below S) (L.above S) ∙ sym (L.rows S _)

  module _ (e : E) where
    lesser_row : (r : Row) → set_of r.tag < n → before (row_key (row e)) (row_key r) ≡ false
    lesser_row r h = ap (λ (j : Key). before j (row_key r)) (L.keyed e) ∙ lesser_after n (key e) r h

    greater_row : (r : Row) → n < set_of r.tag → before (row_key (row e)) (row_key r) ≡ true
    greater_row r h = ap (λ (j : Key). before j (row_key r)) (L.keyed e) ∙ greater_before n (key e) r h

    insert_here : (xs : List E) (b : List Row) → Above b → insert row_key (row e) (map row xs ++ b) ≡ map row (insert key e xs) ++ b
    unfolding insert
    insert_here [] [] h = refl
    insert_here [] (r ∷ b) h = rw (greater_row r h.0)
    insert_here (x ∷ xs) b h = rw (before_is e x) (go (before (key e) (key x)) (insert_here xs b h))
      where
        go : (t : Bool) → insert row_key (row e) (map row xs ++ b) ≡ map row (insert key e xs) ++ b →
            cond t (row e ∷ row x ∷ (map row xs ++ b)) (row x ∷ insert row_key (row e) (map row xs ++ b))
            ≡ map row (cond t (e ∷ x ∷ xs) (x ∷ insert key e xs)) ++ b
        go true i = refl
        go false i = ap (λ (l : List Row). row x ∷ l) i

    insert_in : (a b : List Row) (xs : List E) → Below a → Above b →
        insert row_key (row e) (a ++ (map row xs ++ b)) ≡ a ++ (map row (insert key e xs) ++ b)
    unfolding insert
    insert_in [] b xs lo hi = insert_here xs b hi
    insert_in (r ∷ a) b xs lo hi = rw (lesser_row r lo.0) (ap (λ (l : List Row). r ∷ l) (insert_in a b xs lo.1 hi))

    pub set_insert : (S : State) → insert row_key (row e) (rows_for S) ≡ rows_for (put_in K.kind S e)
    set_insert S =
        ap (insert row_key (row e)) (own_rows K L S)
        ∙ insert_in (L.front S) (L.back S) (K.kind.entries S) (L.below S) (L.above S) ∙ sym (L.rows S _)

-- HOW MANY. No key is before the empty one
pub none_before : (k : Key) → before k ([], []) ≡ false
none_before k = texts_before k.0 k.1 [] (none_less k.1)

-- no row of the set m or of a greater one is before the least key of the set m
module _ (m : ℕ) where
  least_second : (t : ℕ) (id : Bytes) → is_less (order (second m t id) (second m 0 [])) ≡ false
  unfolding second
  least_second t id = go (eqb m 0) (eqb m 3)
    where
      go : (a b : Bool) → is_less (order (cond a (t / 2 ∷ []) (cond b id [])) (cond a (0 ∷ []) (cond b [] []))) ≡ false
      go true b = zero_less (t / 2)
      go false true = none_less id
      go false false = none_less []

  least_before : (r : Row) → m ≤ set_of r.tag → before (row_key r) (key_in m [] 0 []) ≡ false
  least_before r h = go (eqb m (set_of r.tag)) refl
    where
      go : (t : Bool) → eqb m (set_of r.tag) ≡ t → before (row_key r) (key_in m [] 0 []) ≡ false
      go true e =
          ap (λ (j : ℕ). before (j ∷ fold r.f0, second j r.tag r.f1) (key_in m [] 0 [])) (sym (eqb-true m (set_of r.tag) e))
          ∙ ap is_less (set_same m (fold r.f0) [] (second m r.tag r.f1) (second m 0 []))
          ∙ texts_before (fold r.f0) (second m r.tag r.f1) (second m 0 []) (least_second r.tag r.f1)
      go false e = row_greater m (fold [], second m 0 []) r (omega (arith, eqb-false m (set_of r.tag) e))

  abbrev Past : Row → Bool
  Past r = not (before (row_key r) (key_in m [] 0 []))

  -- the rows a before the least key of the set m are those of lesser sets
  before_least : (a b : List Row) → Each (λ (r : Row). set_of r.tag < m) a →
      bound row_key (key_in m [] 0 []) (a ++ b) ≡ length a + bound row_key (key_in m [] 0 []) b
  before_least a b lo =
      first_append_none Past a b
      (none_any Past a
      (each_map (λ (r : Row). set_of r.tag < m) (λ (r : Row). Past r ≡ false) a
      (λ r h. ap not (row_less m (fold [], second m 0 []) r h)) lo))

  least_first : (b : List Row) → Each (λ (r : Row). m ≤ set_of r.tag) b → bound row_key (key_in m [] 0 []) b ≡ 0
  unfolding first_where
  least_first [] h = refl
  least_first (r ∷ b) h = rw (least_before r h.0)

module _ {E : Type 0} (K : RowKind E) (L : RowLawful K) (S : State) where
  abbrev R : List Row
  R = entry_rows K S

  own_least : Each (λ (r : Row). K.set ≤ set_of r.tag) (R ++ L.back S)
  own_least =
      each_append (λ (r : Row). K.set ≤ set_of r.tag) R (L.back S)
      (each_of K.row (λ (r : Row). K.set ≤ set_of r.tag) (λ x. omega (arith, L.placed x)) (K.kind.entries S))
      (each_map (λ (r : Row). K.set < set_of r.tag) (λ (r : Row). K.set ≤ set_of r.tag) (L.back S) (λ r h. omega arith) (L.above S))

  own_before : Each (λ (r : Row). set_of r.tag < suc K.set) (L.front S ++ R)
  own_before =
      each_append (λ (r : Row). set_of r.tag < suc K.set) (L.front S) R
      (each_map (λ (r : Row). set_of r.tag < K.set) (λ (r : Row). set_of r.tag < suc K.set) (L.front S) (λ r h. omega arith)
      (L.below S))
      (each_of K.row (λ (r : Row). set_of r.tag < suc K.set) (λ x. omega (arith, L.placed x)) (K.kind.entries S))

  pub set_first : bound row_key (key_in K.set [] 0 []) (rows_for S) ≡ length (L.front S)
  set_first =
      ap (bound row_key (key_in K.set [] 0 [])) (own_rows K L S)
      ∙ before_least K.set (L.front S) (R ++ L.back S) (L.below S)
      ∙ ap (λ (i : ℕ). length (L.front S) + i) (least_first K.set (R ++ L.back S) own_least) ∙ omega arith

  pub set_end : bound row_key (key_in (suc K.set) [] 0 []) (rows_for S) ≡ length (L.front S) + length (K.kind.entries S)
  set_end =
      ap (bound row_key (key_in (suc K.set) [] 0 [])) (own_rows K L S ∙ sym (append_assoc (L.front S) R (L.back S)))
      ∙ before_least (suc K.set) (L.front S ++ R) (L.back S) own_before
      ∙ ap₂ ◌+◌ (length-append (L.front S) R ∙ ap (λ (i : ℕ). length (L.front S) + i) (length-map (K.kind.entries S) K.row))
      (least_first (suc K.set) (L.back S) (L.above S)) ∙ omega arith

  pub set_count : row_count K.set (rows_for S) ≡ length (K.kind.entries S)
  set_count = ap₂ ◌-◌ set_end set_first ∙ omega arith
