-- When a buffer is taken for a package, when it is a sound one, and what the two writers make of it.
-- Assumes nothing.
use Rattle.std.specs.Prelude.{◌≡◌, ◌⊎◌, Bool, ◌&&◌, List, [], ◌++◌, ℕ, ◌+◌, ◌-◌, ◌≤◌, ◌<◌, leb, eqb, length, take, drop}
use Rattle.base.specs.Buffer.{part}
use Rattle.store.specs.Buffer.{num4}
use Rattle.store.specs.Layout.{slot_count, heap_start, max_capacity, mark, format_of, package_format, cap_of, count_of, used_of, end_of, slot_of, off_of, size_of}
use Rattle.store.specs.Rows.{Row, row_at, rows_of, insert_at, remove_at, replace_at, with_bytes, total}

-- the mark stands at the start: two numbers of four bytes cover its seven
unfoldable pub is_marked : List ℕ → Bool
is_marked b = eqb (num4 b 0) (num4 mark 0) && eqb (num4 b 3) (num4 mark 3)

-- "Answer 1 is decided by a written test of the bytes": length, mark, format, number of rows, capacity, bytes in use and their end
unfoldable pub is_package : List ℕ → Bool
is_package b =
    leb heap_start (length b)
    && (is_marked b && eqb (format_of b) package_format && leb (count_of b) slot_count && leb (cap_of b + heap_start) (length b)
    && leb (cap_of b) max_capacity && leb (used_of b) (cap_of b) && leb (used_of b) (end_of b) && leb (end_of b + heap_start) (length b))

-- what the header must show for every access to be safe
pub record Shape (b : List ℕ) : Type 0 where
  pub few : count_of b ≤ slot_count
  pub room : cap_of b + heap_start ≤ length b
  pub small : cap_of b ≤ max_capacity
  pub used : used_of b ≤ cap_of b
  pub gaps : used_of b ≤ end_of b
  pub within : end_of b + heap_start ≤ length b

-- the places of two slots in the heap do not meet
abbrev pub Apart : List ℕ → List ℕ → Type 0
Apart s t = (off_of s + size_of s ≤ off_of t) ⊎ (off_of t + size_of t ≤ off_of s)

-- a package as the functions here leave it, whatever its format: every row has a byte at least, the rows' places lie before the end and
-- do not meet
pub record Sound (b : List ℕ) : Type 0 where
  pub marked : part 0 7 b ≡ mark
  pub shape : Shape b
  pub filled : (i : ℕ) → i < count_of b → 0 < size_of (slot_of b i)
  pub inside : (i : ℕ) → i < count_of b → off_of (slot_of b i) + size_of (slot_of b i) ≤ end_of b
  pub apart : (i j : ℕ) → i < j → j < count_of b → Apart (slot_of b i) (slot_of b j)
  pub exact : total (rows_of b) ≡ used_of b

-- m has the rows rs in the place of those of b, with the same capacity and format
pub record Became (b m : List ℕ) (rs : List Row) : Type 0 where
  pub sound : Sound m
  pub rows : rows_of m ≡ rs
  pub cap : cap_of m ≡ cap_of b
  pub format : format_of m ≡ format_of b

-- m is b with the row x put in at r
pub record Inserted (b m : List ℕ) (r : ℕ) (x : Row) : Type 0 where
  pub sound : Sound m
  pub rows : rows_of m ≡ insert_at r x (rows_of b)
  pub cap : cap_of m ≡ cap_of b
  pub format : format_of m ≡ format_of b

-- m is b without its row r
pub record Removed (b m : List ℕ) (r : ℕ) : Type 0 where
  pub sound : Sound m
  pub rows : rows_of m ≡ remove_at r (rows_of b)
  pub cap : cap_of m ≡ cap_of b
  pub format : format_of m ≡ format_of b

-- there is room for a row of k bytes at r
pub record Room (b : List ℕ) (r k : ℕ) : Type 0 where
  pub at : r ≤ count_of b
  pub more : count_of b < slot_count
  pub fits : used_of b + k ≤ cap_of b

-- m is b with its rows' bytes gathered at the heap's start
pub record Gathered (b m : List ℕ) : Type 0 where
  pub sound : Sound m
  pub rows : rows_of m ≡ rows_of b
  pub cap : cap_of m ≡ cap_of b
  pub format : format_of m ≡ format_of b
  pub end : end_of m ≡ used_of m

-- the last n bytes of row j's field 2 can go to the end of row i's: both rows have nothing behind that field, and row j keeps some bytes
pub record Passing (b : List ℕ) (j i n : ℕ) : Type 0 where
  pub from : j < count_of b
  pub to : i < count_of b
  pub other : i ≡ j → ⊥
  pub last : ((row_at b j).f3 ≡ []) × ((row_at b i).f3 ≡ [])
  pub kept : 0 < length (row_at b j).f0
  pub enough : n ≤ length (row_at b j).f2

-- the rows after it
abbrev pub passed : List ℕ → ℕ → ℕ → ℕ → List Row
passed b j i n =
    replace_at i (with_bytes (row_at b i) ((row_at b i).f2 ++ drop (length (row_at b j).f2 - n) (row_at b j).f2))
    (replace_at j (with_bytes (row_at b j) (take (length (row_at b j).f2 - n) (row_at b j).f2)) (rows_of b))

-- row r can get a field 1 of k bytes: it has nothing behind field 2, and the capacity has room for it beside the old one
pub record Respelling (b : List ℕ) (r k : ℕ) : Type 0 where
  pub at : r < count_of b
  pub last : (row_at b r).f3 ≡ []
  pub kept : 0 < length (row_at b r).f0
  pub fits : used_of b + k ≤ cap_of b
