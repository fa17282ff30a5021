-- The rows of a package: what they are, how they are read from its buffer, a row put in and one taken out.
-- Assumes nothing.
use Rattle.std.specs.Prelude.{ℕ, zero, suc, ◌+◌, List, [], ◌∷◌, ◌++◌, length, take, drop}
use Rattle.base.specs.Buffer.{part}
use Rattle.store.specs.Buffer.{num4}
use Rattle.store.specs.Layout.{heap_start, count_of, slot_of, off_of, size_of}

-- a row: a number and four byte strings
pub record Row : Type 0 where
  pub tag : ℕ
  pub f0 : List ℕ
  pub f1 : List ℕ
  pub f2 : List ℕ
  pub f3 : List ℕ

abbrev pub make_row : ℕ → List ℕ → List ℕ → List ℕ → List ℕ → Row
make_row t w x y z = record { tag = t; f0 = w; f1 = x; f2 = y; f3 = z }

abbrev pub no_row : Row
no_row = make_row 0 [] [] [] []

-- field j of a row; 3 and above is the last
unfoldable pub field_of : Row → ℕ → List ℕ
field_of r zero = r.f0
field_of r (suc zero) = r.f1
field_of r (suc (suc zero)) = r.f2
field_of r (suc (suc (suc j))) = r.f3

-- the row that the slot s tells of: its fields lie one after the other in the heap of b
unfoldable pub row_of : List ℕ → List ℕ → Row
row_of b s = record {
  tag = num4 s 20;
  f0 = part (heap_start + off_of s) (num4 s 4) b;
  f1 = part (heap_start + off_of s + num4 s 4) (num4 s 8) b;
  f2 = part (heap_start + off_of s + num4 s 4 + num4 s 8) (num4 s 12) b;
  f3 = part (heap_start + off_of s + num4 s 4 + num4 s 8 + num4 s 12) (num4 s 16) b;
}

abbrev pub row_at : List ℕ → ℕ → Row
row_at b i = row_of b (slot_of b i)

abbrev pub tag_at : List ℕ → ℕ → ℕ
tag_at b i = (row_at b i).tag

-- how many bytes row i has, as its slot tells
abbrev pub size_at : List ℕ → ℕ → ℕ
size_at b i = size_of (slot_of b i)

-- the list f 0, f 1, .., f (n - 1)
unfoldable pub tabulate : ℕ → (ℕ → Row) → List Row
tabulate zero f = []
tabulate (suc n) f = f zero ∷ tabulate n (λ k. f (suc k))

-- the rows of a package, in the order of their slots
abbrev pub rows_of : List ℕ → List Row
rows_of b = tabulate (count_of b) (row_at b)

unfoldable pub insert_at : ℕ → Row → List Row → List Row
insert_at r x l = take r l ++ (x ∷ drop r l)

unfoldable pub remove_at : ℕ → List Row → List Row
remove_at r l = take r l ++ drop (r + 1) l

-- with x in the place of row r
unfoldable pub replace_at : ℕ → Row → List Row → List Row
replace_at r x l = take r l ++ (x ∷ drop (r + 1) l)

-- the row with other bytes in field 2
abbrev pub with_bytes : Row → List ℕ → Row
with_bytes x c = make_row x.tag x.f0 x.f1 c x.f3

-- the row with another tag and another field 1
abbrev pub respelled : Row → ℕ → List ℕ → Row
respelled x t s = make_row t x.f0 s x.f2 x.f3

-- the bytes of a row's fields, and of all rows'
abbrev pub row_size : Row → ℕ
row_size x = length x.f0 + (length x.f1 + (length x.f2 + length x.f3))

unfoldable pub total : List Row → ℕ
total [] = 0
total (x ∷ l) = row_size x + total l
