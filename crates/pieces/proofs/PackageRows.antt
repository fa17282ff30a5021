-- A package and its rows: what they use, and those of items in three stretches.
-- Assumes nothing.
use mathlib.Core.Path.{◌≡◌, sym, ap, ◌∙◌}
use Prim.Native.Nat.{ℕ, ◌≤◌}
use mathlib.Core.List.{List, ◌++◌, map, append_assoc, map-append}
use native.Mathlib.Omega.{arith}
use lib.ListN.{length}
use Rattle.model.specs.Package.{Item, State}
use Rattle.store.specs.Layout.{count_of, used_of}
use Rattle.store.specs.Rows.{Row, total}
use Rattle.store.proofs.Headers.{rows_count}
use Rattle.contract.specs.Rows.{item_row, other_rows, rows_for}
use Rattle.contract.specs.Holds.{Lies}
use Rattle.pieces.specs.Rowed.{Rowed}

-- the bytes that rows use
pub rowed_used : (b : List ℕ) (c : ℕ) (rs : List Row) → Rowed b c rs → used_of b ≡ total rs
rowed_used b c rs w = sym w.sound.exact ∙ ap total w.rows

pub rowed_count : (b : List ℕ) (c : ℕ) (rs : List Row) → Rowed b c rs → count_of b ≡ length rs
rowed_count b c rs w = sym (rows_count b) ∙ ap length w.rows

-- bytes that lie as a package, and as its rows
pub lies_rowed : (b : List ℕ) (S : State) → Lies b S → Rowed b S.capacity (rows_for S)
lies_rowed b S h = record { sound = h.sound; format = h.format; rows = h.rows; cap = h.capacity }

pub rowed_lies : (b : List ℕ) (S : State) → Rowed b S.capacity (rows_for S) → Lies b S
rowed_lies b S w = record { sound = w.sound; format = w.format; rows = w.rows; capacity = w.cap }

-- the items in three
pub rows_around : (S : State) (a g z : List Item) → S.items ≡ a ++ (g ++ z) →
    rows_for S ≡ map item_row a ++ (map item_row g ++ (map item_row z ++ other_rows S))
unfolding rows_for
rows_around S a g z e = ap (λ (l : List Item). map item_row l ++ other_rows S) e ∙ simp (map-append, append_assoc)

-- rows use no more than the capacity
pub rowed_room : (b : List ℕ) (c : ℕ) (rs : List Row) → Rowed b c rs → total rs ≤ c
rowed_room b c rs w = omega (arith, ap total w.rows, w.sound.exact, w.sound.shape.used, w.cap)
