-- The rows of a package stand in the order of their keys; a search over them is a search in one set.
-- Assumes nothing.
use Prim.Native.Nat.{ℕ, ◌+◌, ◌<◌}
use mathlib.Core.Path.{◌≡◌, refl, ap, ap₂, sym, ◌∙◌, subst}
use mathlib.Core.Bool.{Bool, true, false, not}
use mathlib.Core.List.{List, [], ◌∷◌, ◌++◌, map}
use native.Mathlib.Omega.{arith}
use lib.ListN.{length}
use Rattle.chars.specs.Folding.{fold}
use Rattle.model.specs.Sets.{Key, is_less, before, Each, Sorted}
use Rattle.model.specs.Places.{first_where, bound}
use Rattle.model.specs.Package.{State}
use Rattle.model.specs.Good.{Good, GoodSet}
use Rattle.model.proofs.Lists.{each_map, pairs_map, none_any}
use Rattle.model.proofs.Appends.{pairs_append}
use Rattle.model.proofs.Walks.{first_append_none, first_append_stop, first_map}
use Rattle.store.specs.Rows.{Row}
use Rattle.contract.specs.Rows.{set_of, second, set_key, row_key, RowKind, item_rows, default_rows, override_rows, relationship_rows, entry_rows, other_rows, rows_for}
use Rattle.contract.specs.Holds.{Holds}
use Rattle.contract.specs.Searches.{Ordered}
use Rattle.contract.proofs.RowSearch.{set_less, set_greater, set_same}
use Rattle.contract.proofs.RowLists.{each_of, pairs_under}
use Rattle.contract.proofs.RowKinds.{RowLawful, own_rows, item_rows_lem, default_rows_lem, override_rows_lem, relationship_rows_lem}

-- rows of lesser and of greater sets beside a key of the set n
module _ (n : ℕ) (k : Key) (r : Row) where
  pub row_less : set_of r.tag < n → before (row_key r) (set_key n k) ≡ true
  row_less h = ap is_less (set_less (set_of r.tag) n (fold r.f0) k.0 (second (set_of r.tag) r.tag r.f1) k.1 h)

  pub row_greater : n < set_of r.tag → before (row_key r) (set_key n k) ≡ false
  row_greater h = ap is_less (set_greater (set_of r.tag) n (fold r.f0) k.0 (second (set_of r.tag) r.tag r.f1) k.1 h)

-- ONE SET
module _ {E : Type 0} (K : RowKind E) (L : RowLawful K) where
  abbrev key : E → Key
  key = K.kind.key

  same_before : (x y : E) → before (row_key (K.row x)) (row_key (K.row y)) ≡ before (key x) (key y)
  same_before x y =
      ap₂ before (L.keyed x) (L.keyed y) ∙ ap is_less (set_same K.set (key x).0 (key y).0 (key x).1 (key y).1)

  set_sorted : (xs : List E) → GoodSet K.kind xs → Sorted row_key (map K.row xs)
  set_sorted xs g =
      pairs_under K.row (λ (a b : Row). before (row_key a) (row_key b) ≡ true) xs
      (pairs_map (λ (x y : E). before (key x) (key y) ≡ true) (λ (x y : E). before (row_key (K.row x)) (row_key (K.row y)) ≡ true) xs
      (λ x y e. same_before x y ∙ e) g.sorted)

  -- its rows are before those behind them
  set_apart : (S : State) → Each (λ (x : Row). Each (λ (y : Row). before (row_key x) (row_key y) ≡ true) (L.back S)) (entry_rows K S)
  set_apart S =
      each_of K.row (λ (x : Row). Each (λ (y : Row). before (row_key x) (row_key y) ≡ true) (L.back S))
      (λ x. each_map (λ (y : Row). K.set < set_of y.tag) (λ (y : Row). before (row_key (K.row x)) (row_key y) ≡ true) (L.back S)
      (λ y h. apart x y h) (L.above S)) (K.kind.entries S)
    where
      apart : (x : E) (y : Row) → K.set < set_of y.tag → before (row_key (K.row x)) (row_key y) ≡ true
      apart x y h =
          row_less (set_of y.tag) (fold y.f0, second (set_of y.tag) y.tag y.f1) (K.row x) (omega (arith, L.placed x))

  -- the bound of a key over all rows is that in its set, behind the rows of lesser sets
  pub set_bound : (k : Key) (S : State) → bound row_key (set_key K.set k) (rows_for S)
      ≡ length (L.front S) + bound key k (K.kind.entries S)
  unfolding first_where
  set_bound k S =
      ap (bound row_key (set_key K.set k)) (own_rows K L S)
      ∙ first_append_none p (L.front S) (entry_rows K S ++ L.back S)
      (none_any p (L.front S)
      (each_map (λ (r : Row). set_of r.tag < K.set) (λ (r : Row). p r ≡ false) (L.front S) (λ r h. ap not (row_less K.set k r h))
      (L.below S)))
      ∙ ap (λ (m : ℕ). length (L.front S) + m)
      (first_append_stop p (entry_rows K S) (L.back S) (stops (L.back S) (L.above S))
      ∙ first_map K.row p (λ (x : E). not (before (key x) k)) one (K.kind.entries S))
    where
      p : Row → Bool
      p r = not (before (row_key r) (set_key K.set k))

      one : (x : E) → not (before (row_key (K.row x)) (set_key K.set k)) ≡ not (before (key x) k)
      one x =
          ap (λ (j : Key). not (before j (set_key K.set k))) (L.keyed x)
          ∙ ap (λ (o : _). not (is_less o)) (set_same K.set (key x).0 k.0 (key x).1 k.1)

      stops : (ys : List Row) → Each (λ (r : Row). K.set < set_of r.tag) ys →
          first_where (λ (r : Row). not (before (row_key r) (set_key K.set k))) ys ≡ 0
      stops [] h = refl
      stops (y ∷ ys) h = rw (row_greater K.set k y h.0)

-- THE ROWS OF A STATE
pub rows_sorted : (S : State) → Good S → Sorted row_key (rows_for S)
unfolding rows_for other_rows item_rows_lem default_rows_lem override_rows_lem
rows_sorted S g =
    let P : Row → Row → Type 0 = λ (x y : Row). before (row_key x) (row_key y) ≡ true in
    let I = entry_rows item_rows S in
    let D = entry_rows default_rows S in
    let O = entry_rows override_rows S in
    let R = entry_rows relationship_rows S in
    pairs_append P I (D ++ (O ++ R)) (set_sorted item_rows item_rows_lem S.items g.items)
    (pairs_append P D (O ++ R) (set_sorted default_rows default_rows_lem S.defaults g.defaults)
    (pairs_append P O R (set_sorted override_rows override_rows_lem S.overrides g.overrides)
    (set_sorted relationship_rows relationship_rows_lem S.relationships g.relationships)
    (set_apart override_rows override_rows_lem S))
    (set_apart default_rows default_rows_lem S))
    (set_apart item_rows item_rows_lem S)

pub holds_ordered : (b : List ℕ) (S : State) → Holds b S → Ordered b
holds_ordered b S h = record {
  sound = h.lies.sound;
  sorted = subst (Sorted row_key) (sym h.lies.rows) (rows_sorted S h.good);
}
