-- Rows that are changed one by one on the way from one package to the next. These are promises of inner functions.
-- Assumes nothing.
use Rattle.std.specs.Prelude.{ℕ, ◌+◌, ◌-◌, ◌≤◌, ◌<◌, ◌≡◌, Bool, true, List, [], ◌∷◌, ◌++◌, length, take, drop}
use Rattle.store.specs.Layout.{slot_count, format_of, package_format, cap_of, count_of, used_of}
use Rattle.store.specs.Rows.{Row, make_row, rows_of, with_bytes, respelled, total}
use Rattle.store.specs.Packages.{Shape, Sound, Room}

-- the bytes lie as these rows, with the capacity c
pub record Rowed (b : List ℕ) (c : ℕ) (rs : List Row) : Type 0 where
  pub sound : Sound b
  pub format : format_of b ≡ package_format
  pub rows : rows_of b ≡ rs
  pub cap : cap_of b ≡ c

-- z tells whether row r is there, and a row of k bytes may be put in behind it
pub record Behind (b : List ℕ) (r k : ℕ) (z : Bool) : Type 0 where
  pub safe : z ≡ true → Shape b × (r < count_of b) × Room b (r + 1) k
  pub is : Sound b → format_of b ≡ package_format → r < count_of b → count_of b < slot_count → used_of b + k ≤ cap_of b → z ≡ true

-- z tells whether row r is there
pub record There (b : List ℕ) (r : ℕ) (z : Bool) : Type 0 where
  pub safe : z ≡ true → Shape b × (r < count_of b)
  pub is : Sound b → format_of b ≡ package_format → r < count_of b → z ≡ true

-- the row w keeps all but the last n bytes of its field 2; these are behind it in a row of their own, with the tag t and the names p and s
abbrev pub split_rows : Row → ℕ → List ℕ → List ℕ → ℕ → List Row
split_rows w t p s n = with_bytes w (take (length w.f2 - n) w.f2) ∷ make_row t p s (drop (length w.f2 - n) w.f2) [] ∷ []

-- row r was split so
pub record SplitOff (b m : List ℕ) (r t : ℕ) (p s : List ℕ) (n : ℕ) : Type 0 where
  pub is : (c : ℕ) (before : List Row) (w : Row) (behind : List Row) → Rowed b c (before ++ (w ∷ behind)) → length before ≡ r
      → w.f3 ≡ [] → 0 < length w.f0 → 0 < length p → n ≤ length w.f2
      → length (before ++ (w ∷ behind)) < slot_count → total (before ++ (w ∷ behind)) + (length p + length s) ≤ c
      → Rowed m c (before ++ (split_rows w t p s n ++ behind))

-- the row x takes up the field 2 of the row y behind it, which is gone
abbrev pub absorbed : Row → Row → Row
absorbed x y = with_bytes x (x.f2 ++ y.f2)

pub record Absorbed (b m : List ℕ) (r : ℕ) : Type 0 where
  pub is : (c : ℕ) (before : List Row) (x y : Row) (behind : List Row) → Rowed b c (before ++ (x ∷ y ∷ behind)) → length before ≡ r
      → x.f3 ≡ [] → y.f3 ≡ [] → 0 < length y.f0 → Rowed m c (before ++ (absorbed x y ∷ behind))

-- row r has the tag t and the field s
pub record Renamed (b m : List ℕ) (r t : ℕ) (s : List ℕ) : Type 0 where
  pub is : (c : ℕ) (before : List Row) (w : Row) (behind : List Row) → Rowed b c (before ++ (w ∷ behind)) → length before ≡ r
      → w.f3 ≡ [] → 0 < length w.f0 → total (before ++ (w ∷ behind)) + length s ≤ c
      → Rowed m c (before ++ (respelled w t s ∷ behind))
