-- What the functions that put in and take out the row of an entry do. These are promises of inner functions.
-- Assumes nothing.
use Rattle.std.specs.Prelude.{ℕ, suc, ◌+◌, ◌-◌, ◌≤◌, ◌<◌, ◌≡◌, Bool, true, false, not, ◌||◌, List, [], ◌∷◌, leb, ltb}
use Rattle.output.specs.Answers.{Answer}
use Rattle.model.specs.Sets.{Key, held, lookup, insert, remove}
use Rattle.model.specs.Fields.{when, first}
use Rattle.model.specs.Places.{bound, spot}
use Rattle.model.specs.Calls.{done, refused, Numbered}
use Rattle.store.specs.Layout.{cap_of, count_of, used_of, slot_count}
use Rattle.store.specs.Rows.{Row, row_size, rows_of}
use Rattle.store.specs.Packages.{Became}
use Rattle.contract.specs.Rows.{set_of, key_in, row_key}
use Rattle.contract.specs.Searches.{Ordered}

-- r is the row that has the key k; past the last row if there is none
pub record Sought (b : List ℕ) (k : Key) (r : ℕ) : Type 0 where
  pub within : r ≤ count_of b
  pub is : Ordered b → r ≡ spot row_key k (rows_of b)

-- z tells whether some row has the key k
pub record Taken (b : List ℕ) (k : Key) (z : Bool) : Type 0 where
  pub is : Ordered b → z ≡ held (lookup row_key k (rows_of b))

-- how many of the rows, which stand in the order of their keys, are of the set n: from its least key to that of the next set
abbrev pub row_count : ℕ → List Row → ℕ
row_count n rows = bound row_key (key_in (suc n) [] 0 []) rows - bound row_key (key_in n [] 0 []) rows

pub record RowsCounted (b : List ℕ) (n r : ℕ) : Type 0 where
  pub is : Ordered b → r ≡ row_count n (rows_of b)

-- z tells whether the set n has as many rows as its limit
pub record SetFull (b : List ℕ) (n limit : ℕ) (z : Bool) : Type 0 where
  pub is : Ordered b → z ≡ leb limit (row_count n (rows_of b))

-- some row has the key of x
abbrev pub key_taken : List ℕ → Row → Bool
key_taken b x = held (lookup row_key (row_key x) (rows_of b))

-- the set has as many rows as its limit, no slot is free, or n bytes more pass the capacity
abbrev pub no_row_room : List ℕ → ℕ → ℕ → ℕ → Bool
no_row_room b set limit n = leb limit (row_count set (rows_of b)) || leb slot_count (count_of b) || ltb (cap_of b) (used_of b + n)

-- z tells whether there is room for a row of n bytes in the set
pub record Roomy (b : List ℕ) (set limit n : ℕ) (z : Bool) : Type 0 where
  pub is : Ordered b → not z ≡ no_row_room b set limit n
  pub room : z ≡ true → (count_of b < slot_count) × (used_of b + n ≤ cap_of b)

-- the refusal of a new row x by the rows of b: 10, own, which is that of the call's own test, 15, 0 for none
abbrev pub row_refusal : List ℕ → ℕ → ℕ → Row → ℕ
row_refusal b own limit x = first (when (key_taken b x) 10 ∷ own ∷ when (no_row_room b (set_of x.tag) limit (row_size x)) 15 ∷ [])

pub record Weighed (b : List ℕ) (own limit : ℕ) (x : Row) (k : ℕ) : Type 0 where
  pub is : Ordered b → k ≡ row_refusal b own limit x
  pub room : k ≡ 0 → (count_of b < slot_count) × (used_of b + row_size x ≤ cap_of b)
  pub numbered : Numbered k

-- a is the answer to a new row x, and q the buffer after it
pub record Entered (b : List ℕ) (own limit : ℕ) (x : Row) (a : Answer) (q : List ℕ) : Type 0 where
  pub kept : (a.number ≡ 0 → ⊥) → (q ≡ b) × (a.output ≡ [])
  pub numbered : Numbered a.number
  pub stopped : Ordered b → (row_refusal b own limit x ≡ 0 → ⊥) → a ≡ refused (row_refusal b own limit x)
  pub made : Ordered b → row_refusal b own limit x ≡ 0 → (a ≡ done) × Became b q (insert row_key x (rows_of b))

-- a is the answer to a drop of the row of the key k, and q the buffer after it
pub record Dropped (b : List ℕ) (k : Key) (a : Answer) (q : List ℕ) : Type 0 where
  pub kept : (a.number ≡ 0 → ⊥) → (q ≡ b) × (a.output ≡ [])
  pub numbered : Numbered a.number
  pub missing : Ordered b → held (lookup row_key k (rows_of b)) ≡ false → a ≡ refused 13
  pub made : Ordered b → held (lookup row_key k (rows_of b)) ≡ true → (a ≡ done) × Became b q (remove row_key k (rows_of b))
