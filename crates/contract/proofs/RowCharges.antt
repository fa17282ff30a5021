-- The bytes of the rows are the charge, and their number that of the entries.
-- Assumes nothing.
use Prim.Native.Nat.{ℕ, ◌+◌}
use mathlib.Core.Path.{◌≡◌, refl, ap, sym, ◌∙◌}
use mathlib.Core.List.{List, [], ◌∷◌, ◌++◌, map}
use native.Mathlib.Omega.{arith}
use lib.ListN.{length}
use Rattle.model.specs.Sets.{sum_of}
use Rattle.model.specs.Package.{State, charge}
use Rattle.store.specs.Layout.{used_of, count_of}
use Rattle.store.specs.Rows.{Row, total}
use Rattle.store.proofs.Headers.{rows_count}
use Rattle.contract.specs.Rows.{RowKind, item_rows, default_rows, override_rows, relationship_rows, entry_rows, other_rows, rows_for}
use Rattle.contract.specs.Holds.{Holds}
use Rattle.contract.proofs.RowKinds.{RowLawful, item_rows_lem, default_rows_lem, override_rows_lem, relationship_rows_lem}

pub total_append : (a b : List Row) → total (a ++ b) ≡ total a + total b
unfolding total
total_append [] b = omega arith
total_append (x ∷ a) b = let e = total_append a b in omega arith

total_map : {E : Type 0} (K : RowKind E) → RowLawful K → (l : List E) → total (map K.row l) ≡ sum_of K.kind.charge l
unfolding total sum_of
total_map K L [] = refl
total_map K L (x ∷ l) = let i = total_map K L l in let z = L.sized x in omega arith

pub total_rows : (S : State) → total (rows_for S) ≡ charge S
unfolding rows_for other_rows charge
total_rows S =
    let I = entry_rows item_rows S in
    let D = entry_rows default_rows S in
    let O = entry_rows override_rows S in
    let R = entry_rows relationship_rows S in
    omega (
      arith,
      total_append I (D ++ (O ++ R)),
      total_append D (O ++ R),
      total_append O R,
      total_map item_rows item_rows_lem S.items,
      total_map default_rows default_rows_lem S.defaults,
      total_map override_rows override_rows_lem S.overrides,
      total_map relationship_rows relationship_rows_lem S.relationships,
    )

module _ (b : List ℕ) (S : State) (h : Holds b S) where
  -- "The charge .. is the sum": the bytes of the heap in use
  pub used_charge : used_of b ≡ charge S
  used_charge = sym h.lies.sound.exact ∙ ap total h.lies.rows ∙ total_rows S

  pub count_rows : count_of b ≡ length (rows_for S)
  count_rows = sym (rows_count b) ∙ ap length h.lies.rows
