-- When a row reads as it did: its bytes are where they were, or were moved with its offset.
-- Assumes nothing.
use mathlib.Core.Path.{◌≡◌, refl, sym, ap, ◌∙◌}
use mathlib.Core.Logic.{◌⊎◌, inl, inr, ⊎_elim}
use Prim.Native.Nat.{ℕ, zero, suc, ◌+◌, ◌≤◌, ◌<◌}
use mathlib.Core.List.{List}
use native.Mathlib.Omega.{arith}
use lib.ListN.{length}
use Rattle.base.specs.Buffer.{part}
use Rattle.store.specs.Buffer.{num4}
use Rattle.store.specs.Layout.{heap_start, count_of, slot_of, off_of, size_of}
use Rattle.store.specs.Rows.{Row, row_of, row_at, rows_of, size_at, row_size}
use Rattle.store.specs.Packages.{Sound}
use Rattle.base.proofs.Parts.{length_part}
use Rattle.store.proofs.Headers.{same_rows_count, same_rows_row}

pub three : (i r : ℕ) → (i < r) ⊎ ((i ≡ r) ⊎ (r < i))
three zero zero = inr (inl refl)
three zero (suc r) = inl (omega arith)
three (suc i) zero = inr (inr (omega arith))
three (suc i) (suc r) = ⊎_elim (λ h. inl (omega arith)) (λ w. ⊎_elim (λ e. inr (inl (ap suc e))) (λ h. inr (inr (omega arith))) w) (three i r)

-- the slot z of m is the slot s of b but for the offset
pub record Like (s z : List ℕ) : Type 0 where
  pub n0 : num4 z 4 ≡ num4 s 4
  pub n1 : num4 z 8 ≡ num4 s 8
  pub n2 : num4 z 12 ≡ num4 s 12
  pub n3 : num4 z 16 ≡ num4 s 16
  pub tag : num4 z 20 ≡ num4 s 20

-- a row whose place has moved, with its bytes
pub row_moved : (b m s z : List ℕ) → Like s z
    → ((x y c : ℕ) → heap_start + off_of s ≤ y → y + c ≤ heap_start + off_of s + size_of s → x + off_of s ≡ y + off_of z → part x c m ≡ part y c b) → row_of m z ≡ row_of b s
unfolding row_of
row_moved b m s z e same =
    let p0 = same (heap_start + num4 z 0) (heap_start + num4 s 0) (num4 s 4) (omega arith) (omega arith) (omega arith) in
    let p1 = same (heap_start + num4 z 0 + num4 s 4) (heap_start + num4 s 0 + num4 s 4) (num4 s 8) (omega arith) (omega arith) (omega arith) in
    let p2 = same (heap_start + num4 z 0 + num4 s 4 + num4 s 8) (heap_start + num4 s 0 + num4 s 4 + num4 s 8) (num4 s 12) (omega arith) (omega arith) (omega arith) in
    let p3 = same (heap_start + num4 z 0 + num4 s 4 + num4 s 8 + num4 s 12) (heap_start + num4 s 0 + num4 s 4 + num4 s 8 + num4 s 12) (num4 s 16) (omega arith) (omega arith) (omega arith) in
    rw (e.n0, e.n1, e.n2, e.n3, e.tag, p0, p1, p2, p3)

-- a row by its tag and its fields
pub row_is : (m z : List ℕ) (x : Row) → num4 z 20 ≡ x.tag → part (heap_start + off_of z) (num4 z 4) m ≡ x.f0 → part (heap_start + off_of z + num4 z 4) (num4 z 8) m ≡ x.f1
    → part (heap_start + off_of z + num4 z 4 + num4 z 8) (num4 z 12) m ≡ x.f2 → part (heap_start + off_of z + num4 z 4 + num4 z 8 + num4 z 12) (num4 z 16) m ≡ x.f3 → row_of m z ≡ x
unfolding row_of
row_is m z x t a b c d = rw (t, a, b, c, d) refl

-- the lengths of a row's fields are what its slot says
module _ (b s : List ℕ) (h : heap_start + off_of s + size_of s ≤ length b) where
  pub length_f0 : length (row_of b s).f0 ≡ num4 s 4
  unfolding row_of
  length_f0 = length_part (heap_start + num4 s 0) (num4 s 4) b (omega arith)

  pub length_f1 : length (row_of b s).f1 ≡ num4 s 8
  unfolding row_of
  length_f1 = length_part (heap_start + num4 s 0 + num4 s 4) (num4 s 8) b (omega arith)

  pub length_f2 : length (row_of b s).f2 ≡ num4 s 12
  unfolding row_of
  length_f2 = length_part (heap_start + num4 s 0 + num4 s 4 + num4 s 8) (num4 s 12) b (omega arith)

  pub length_f3 : length (row_of b s).f3 ≡ num4 s 16
  unfolding row_of
  length_f3 = length_part (heap_start + num4 s 0 + num4 s 4 + num4 s 8 + num4 s 12) (num4 s 16) b (omega arith)

  -- and so is its size
  pub row_size_lem : row_size (row_of b s) ≡ size_of s
  row_size_lem = omega (arith, length_f0, length_f1, length_f2, length_f3)

pub row_sized : (b : List ℕ) → Sound b → (i : ℕ) → i < count_of b → row_size (row_at b i) ≡ size_at b i
row_sized b so i l = row_size_lem b (slot_of b i) (omega (arith, so.inside i l, so.shape.within))

pub same_rows_size : (b m : List ℕ) → Sound b → Sound m → rows_of m ≡ rows_of b → (i : ℕ) → i < count_of b → size_at m i ≡ size_at b i
same_rows_size b m so sm e i h =
    sym (row_sized m sm i (omega (arith, same_rows_count b m e))) ∙ ap (λ (x : Row). row_size x) (same_rows_row b m e i h) ∙ row_sized b so i h

-- a row that has stayed, with its slot
pub row_same : (b m s z : List ℕ) → z ≡ s
    → ((x c : ℕ) → heap_start + off_of s ≤ x → x + c ≤ heap_start + off_of s + size_of s → part x c m ≡ part x c b) → row_of m z ≡ row_of b s
row_same b m s z e same =
    rw e (row_moved b m s s (record { n0 = refl; n1 = refl; n2 = refl; n3 = refl; tag = refl })
    (λ x y c h q d. let f : x ≡ y = omega arith in rw f (same y c h q)))
