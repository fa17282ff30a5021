-- The rows of a set, one by one, are its entries.
-- Assumes nothing.
use Prim.Native.Nat.{ℕ, zero, suc, ◌+◌, ◌≤◌, ◌<◌}
use mathlib.Core.Path.{◌≡◌, refl, ap, ap₂, sym, ◌∙◌}
use mathlib.Core.Bool.{cond}
use mathlib.Core.List.{List, [], ◌∷◌, ◌++◌, map}
use native.Mathlib.Omega.{arith}
use lib.Dec.{eqb}
use lib.ListN.{length, get_or, length-map}
use lib.Seq.{get_or-append-add}
use Rattle.model.specs.Sets.{Bytes, Each}
use Rattle.model.specs.Places.{bound}
use Rattle.model.specs.Package.{Item, Default, Override, Relationship, State, relationship_kind}
use Rattle.model.proofs.Lists.{each_map, each_all}
use Rattle.model.proofs.ItemNames.{prefix_rest}
use Rattle.model.proofs.Targets.{fielded, mode_le}
use Rattle.store.specs.Rows.{Row, no_row, row_at}
use Rattle.store.proofs.Headers.{row_get_or}
use Rattle.contract.specs.Rows.{external_tag, item_row, default_row, override_row, relationship_row, key_in, row_key, RowKind, item_rows, default_rows, override_rows}
use Rattle.contract.specs.Rows.{relationship_rows, entry_rows}
use Rattle.contract.specs.Holds.{Holds}
use Rattle.contract.specs.Searches.{Bounded}
use Rattle.contract.proofs.RowKinds.{RowLawful, own_rows, item_rows_lem, default_rows_lem, override_rows_lem, relationship_rows_lem}
use Rattle.contract.proofs.RowOrders.{holds_ordered}
use Rattle.contract.proofs.SetRows.{set_first, set_end}
use Rattle.entries.specs.Listing.{item_texts, default_texts, override_texts, relationship_texts, listed}
use Rattle.entries.specs.RowTexts.{row_texts}

-- A ROW HAS THE TEXTS of its entry
item_texts_lem : (i : Item) → row_texts 0 (item_row i) ≡ item_texts i
unfolding row_texts item_row
item_texts_lem i = ap (λ (s : Bytes). s ∷ i.bytes ∷ []) (prefix_rest i.name)

default_texts_lem : (d : Default) → row_texts 1 (default_row d) ≡ default_texts d
unfolding row_texts default_row
default_texts_lem d = refl

override_texts_lem : (o : Override) → row_texts 2 (override_row o) ≡ override_texts o
unfolding row_texts override_row
override_texts_lem o = refl

mode_told : (m : ℕ) → m ≤ 1 → cond (eqb (32770 + m) external_tag) 1 0 ≡ m
mode_told zero l = refl
mode_told (suc zero) l = refl
mode_told (suc (suc m)) l = absurd (omega arith)

relationship_texts_lem : (r : Relationship) → relationship_kind.fields r ≡ 0 → row_texts 3 (relationship_row r) ≡ relationship_texts r
unfolding row_texts relationship_row
relationship_texts_lem r e =
    ap (λ (m : ℕ). r.source ∷ r.id ∷ r.type ∷ (m ∷ []) ∷ r.target ∷ []) (mode_told r.mode (mode_le r.mode (fielded r e).mode))

-- THE ROWS from f to t of b are the entries of the set
pub record InRows (b : List ℕ) (S : State) (set f t : ℕ) : Type 0 where
  pub ends : t ≡ f + length (listed set S)
  pub texts : (i : ℕ) → i < length (listed set S) → row_texts set (row_at b (f + i)) ≡ get_or (listed set S) i []

module _ {E : Type 0} (K : RowKind E) (L : RowLawful K) (texts : E → List Bytes) (b : List ℕ) (S : State) (h : Holds b S) (m f t : ℕ) (em : m ≡ suc K.set)
    (ef : Bounded b (key_in K.set [] 0 []) f) (et : Bounded b (key_in m [] 0 []) t)
    (all : Each (λ (x : E). row_texts K.set (K.row x) ≡ texts x) (K.kind.entries S)) where
  abbrev xs : List E
  xs = K.kind.entries S

  first_is : f ≡ length (L.front S)
  first_is = ef.is (holds_ordered b S h) ∙ ap (bound row_key (key_in K.set [] 0 [])) h.lies.rows ∙ set_first K L S

  end_is : t ≡ length (L.front S) + length xs
  end_is =
      et.is (holds_ordered b S h) ∙ ap₂ (λ (n : ℕ) (l : List Row). bound row_key (key_in n [] 0 []) l) em h.lies.rows ∙ set_end K L S

  texts_at : (ys : List E) (back : List Row) (i : ℕ) → Each (λ (x : E). row_texts K.set (K.row x) ≡ texts x) ys → i < length ys →
      row_texts K.set (get_or (map K.row ys ++ back) i no_row) ≡ get_or (map texts ys) i []
  texts_at [] back i e l = absurd (omega arith)
  texts_at (y ∷ ys) back zero e l = e.0
  texts_at (y ∷ ys) back (suc i) e l = texts_at ys back i e.1 (omega arith)

  row_texts_lem : (i : ℕ) → i < length xs → row_texts K.set (row_at b (f + i)) ≡ get_or (map texts xs) i []
  row_texts_lem i l =
      ap (row_texts K.set)
      (sym (row_get_or b (f + i) (omega (arith, et.within, end_is, first_is)))
      ∙ ap₂ (λ (l : List Row) (n : ℕ). get_or l (n + i) no_row) (h.lies.rows ∙ own_rows K L S) first_is
      ∙ get_or-append-add (L.front S) (entry_rows K S ++ L.back S) i no_row)
      ∙ texts_at xs (L.back S) i all l

  set_in_rows : listed K.set S ≡ map texts xs → InRows b S K.set f t
  set_in_rows e =
      let n : length (listed K.set S) ≡ length xs = ap length e ∙ length-map xs texts in
      record {
        ends = omega (arith, n, end_is, first_is);
        texts = λ i l. row_texts_lem i (omega (arith, n)) ∙ ap (λ (l : List (List Bytes)). get_or l i []) (sym e);
      }

pub in_rows : (b : List ℕ) (S : State) → Holds b S → (set m f t : ℕ) → set ≤ 3 → m ≡ suc set → Bounded b (key_in set [] 0 []) f → Bounded b (key_in m [] 0 []) t →
    InRows b S set f t
unfolding listed
in_rows b S h zero m f t l em ef et =
    set_in_rows item_rows item_rows_lem item_texts b S h m f t em ef et (each_all _ item_texts_lem S.items) refl
in_rows b S h (suc zero) m f t l em ef et =
    set_in_rows default_rows default_rows_lem default_texts b S h m f t em ef et (each_all _ default_texts_lem S.defaults) refl
in_rows b S h (suc (suc zero)) m f t l em ef et =
    set_in_rows override_rows override_rows_lem override_texts b S h m f t em ef et (each_all _ override_texts_lem S.overrides) refl
in_rows b S h (suc (suc (suc zero))) m f t l em ef et =
    set_in_rows relationship_rows relationship_rows_lem relationship_texts b S h m f t em ef et
    (each_map (λ (r : Relationship). relationship_kind.fields r ≡ 0) _ S.relationships relationship_texts_lem h.good.relationships.fielded) refl
in_rows b S h (suc (suc (suc (suc n)))) m f t l em ef et = absurd (omega arith)
