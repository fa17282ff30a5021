-- The header's numbers as they are written, and what a header that was kept still says.
-- Assumes nothing.
use mathlib.Core.Path.{◌≡◌, refl, sym, ap, ◌∙◌}
use Prim.Native.Nat.{ℕ, ◌≤◌, ◌<◌, ◌^◌}
use mathlib.Core.List.{List, ◌++◌}
use native.Mathlib.Omega.{arith}
use lib.ListN.{length, get_or}
use Rattle.base.specs.Buffer.{part}
use Rattle.store.specs.Buffer.{num4, le4}
use Rattle.store.specs.Layout.{format_of, count_of}
use Rattle.store.specs.Rows.{Row, no_row, rows_of, row_at}
use Rattle.base.proofs.Parts.{get_or_part}
use Rattle.base.proofs.Writes.{part_part}
use Rattle.store.proofs.Tabulated.{length_tabulate, get_or_tabulate}

module _ (x y z : ℕ) where
  pub counts_size : length (le4 x ++ (le4 y ++ le4 z)) ≡ 12
  unfolding le4
  counts_size = refl

  pub counts_0 : x < 2 ^ 32 → num4 (le4 x ++ (le4 y ++ le4 z)) 0 ≡ x
  unfolding le4 num4
  counts_0 h = omega arith

  pub counts_4 : y < 2 ^ 32 → num4 (le4 x ++ (le4 y ++ le4 z)) 4 ≡ y
  unfolding le4 num4
  counts_4 h = omega arith

  pub counts_8 : z < 2 ^ 32 → num4 (le4 x ++ (le4 y ++ le4 z)) 8 ≡ z
  unfolding le4 num4
  counts_8 h = omega arith

-- the rows by their number
pub rows_count : (b : List ℕ) → length (rows_of b) ≡ count_of b
rows_count b = length_tabulate (count_of b) (row_at b)

pub row_get_or : (b : List ℕ) (i : ℕ) → i < count_of b → get_or (rows_of b) i no_row ≡ row_at b i
row_get_or b i h = get_or_tabulate (count_of b) (row_at b) i h

-- two buffers with the same rows
module _ (b m : List ℕ) (e : rows_of m ≡ rows_of b) where
  pub same_rows_count : count_of m ≡ count_of b
  same_rows_count = sym (rows_count m) ∙ ap length e ∙ rows_count b

  pub same_rows_row : (i : ℕ) → i < count_of b → row_at m i ≡ row_at b i
  same_rows_row i h = sym (row_get_or m i (omega (arith, same_rows_count))) ∙ ap (λ (l : List Row). get_or l i no_row) e ∙ row_get_or b i h

-- two buffers with the same first eight bytes have the same mark and format
pub kind_same : (b m : List ℕ) → 8 ≤ length b → 8 ≤ length m → part 0 8 m ≡ part 0 8 b → (part 0 7 m ≡ part 0 7 b) × (format_of m ≡ format_of b)
kind_same b m h q e = (
  sym (part_part 0 8 0 7 m (omega arith) q) ∙ ap (part 0 7) e ∙ part_part 0 8 0 7 b (omega arith) h,
  sym (get_or_part 0 8 m 7 (omega arith)) ∙ ap (λ (x : List ℕ). get_or x 7 0) e ∙ get_or_part 0 8 b 7 (omega arith),
)
