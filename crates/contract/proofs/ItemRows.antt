-- The rows of the items: which item a row is, where a key stands among them, how many there are.
-- Assumes nothing.
use Prim.Native.Nat.{ℕ, ◌+◌, ◌-◌, ◌/◌, ◌≤◌, ◌<◌}
use mathlib.Core.Path.{◌≡◌, refl, ap, sym, ◌∙◌, subst}
use mathlib.Core.Bool.{Bool, true, false}
use mathlib.Core.List.{List, [], ◌∷◌, ◌++◌, map}
use native.Mathlib.Nat.{zero-add}
use native.Mathlib.Omega.{arith}
use lib.Dec.{ltb}
use lib.ListN.{length, get_or, length-append, length-map, get_or-append}
use lib.Seq.{get_or-append-add}
use borrow.Author.Tests.{ltb-true, ltb-false}
use Rattle.chars.specs.Folding.{fold}
use Rattle.model.specs.Sets.{Bytes}
use Rattle.model.specs.Places.{bound}
use Rattle.model.specs.Fields.{prefix_of, suffix_of}
use Rattle.model.specs.Package.{no_item, State, key_of_item}
use Rattle.model.proofs.Lists.{each_at, get_or_map_in}
use Rattle.store.specs.Layout.{count_of}
use Rattle.store.specs.Rows.{Row, no_row, row_at, tag_at, field_of}
use Rattle.store.proofs.Headers.{row_get_or}
use Rattle.contract.specs.Rows.{tag_of, default_tag, item_row, set_of, second, key_in, row_key, item_rows, default_rows, other_rows, rows_for}
use Rattle.contract.specs.Holds.{Holds}
use Rattle.contract.specs.Searches.{Bounded}
use Rattle.contract.proofs.RowKeys.{tag_set}
use Rattle.contract.proofs.RowKinds.{item_rows_lem, default_rows_lem, length_rows}
use Rattle.contract.proofs.RowOrders.{set_bound, holds_ordered}
use Rattle.contract.proofs.RowCharges.{count_rows}
use Rattle.contract.proofs.SetRows.{set_first}

get_or_front : {E F : Type 0} (f : E → F) (l : List E) (m : List F) (i : ℕ) (d : E) (e : F) → i < length l → get_or (map f l ++ m) i e ≡ f (get_or l i d)
get_or_front f l m i d e h = get_or-append (map f l) m e i (omega (arith, length-map l f)) ∙ get_or_map_in f l i d e h

module _ (b : List ℕ) (S : State) (h : Holds b S) where
  pub items_le : length S.items ≤ count_of b
  items_le = omega (arith, count_rows b S h, length_rows S)

  -- row i is item i
  pub item_row_lem : (i : ℕ) → i < length S.items → row_at b i ≡ item_row (get_or S.items i no_item)
  unfolding rows_for
  item_row_lem i l =
      sym (row_get_or b i (omega (arith, items_le))) ∙ ap (λ (rs : List Row). get_or rs i no_row) h.lies.rows ∙ get_or_front item_row S.items (other_rows S) i no_item no_row l

  pub item_tag : (i : ℕ) → i < length S.items → tag_at b i ≡ tag_of (suffix_of (get_or S.items i no_item).name)
  unfolding item_row
  item_tag i l = ap (λ (r : Row). r.tag) (item_row_lem i l)

  pub item_prefix : (i : ℕ) → i < length S.items → field_of (row_at b i) 0 ≡ prefix_of (get_or S.items i no_item).name
  unfolding item_row field_of
  item_prefix i l = ap (λ (r : Row). field_of r 0) (item_row_lem i l)

  pub item_bytes : (i : ℕ) → i < length S.items → field_of (row_at b i) 2 ≡ (get_or S.items i no_item).bytes
  unfolding item_row field_of
  item_bytes i l = ap (λ (r : Row). field_of r 2) (item_row_lem i l)

  -- where a key stands among the items
  pub item_bound : (p : Bytes) (t : ℕ) (id : Bytes) (r : ℕ) → Bounded b (key_in 0 p t id) r → r ≡ bound key_of_item (fold p, t / 2 ∷ []) S.items
  unfolding second item_rows_lem
  item_bound p t id r e =
      e.is (holds_ordered b S h) ∙ ap (λ (rs : List Row). bound row_key (0 ∷ fold p, t / 2 ∷ []) rs) h.lies.rows
      ∙ set_bound item_rows item_rows_lem (fold p, t / 2 ∷ []) S ∙ zero-add _

  -- how many items there are: the first row that is not before the least key of the next set
  pub item_count : (id : Bytes) (r : ℕ) → Bounded b (key_in 1 [] 0 id) r → r ≡ length S.items
  unfolding second default_rows_lem
  item_count id r e =
      e.is (holds_ordered b S h) ∙ ap (λ (rs : List Row). bound row_key (1 ∷ [], []) rs) h.lies.rows
      ∙ set_first default_rows default_rows_lem S ∙ length-map S.items item_row

-- a row behind the items is of another set
module _ (b : List ℕ) (S : State) (h : Holds b S) where
  pub other_tag : (i : ℕ) → length S.items ≤ i → i < count_of b → default_tag ≤ tag_at b i
  unfolding rows_for item_rows_lem
  other_tag i l k =
      let n = length (map item_row S.items) in
      let e : n ≡ length S.items = length-map S.items item_row in
      let j = i - n in
      let f : n + j ≡ i = omega arith in
      let a : row_at b i ≡ get_or (other_rows S) j no_row =
      sym (row_get_or b i k) ∙ ap (λ (rs : List Row). get_or rs i no_row) h.lies.rows ∙ ap (λ (m : ℕ). get_or (map item_row S.items ++ other_rows S) m no_row) (sym f)
      ∙ get_or-append-add (map item_row S.items) (other_rows S) j no_row in
      let s : 0 < set_of (get_or (other_rows S) j no_row).tag =
      each_at (λ (r : Row). 0 < set_of r.tag) (other_rows S) j no_row
      (omega (arith, count_rows b S h, length-append (map item_row S.items) (other_rows S)))
      (item_rows_lem.above S) in
      not_item (tag_at b i) (subst (λ (r : Row). 0 < set_of r.tag) (sym a) s)
    where
      not_item : (t : ℕ) → 0 < set_of t → default_tag ≤ t
      not_item t z = go (ltb t default_tag) refl
        where
          go : (q : Bool) → ltb t default_tag ≡ q → default_tag ≤ t
          go true e = absurd (omega (arith, tag_set t (ltb-true t default_tag e)))
          go false e = ltb-false t default_tag e
