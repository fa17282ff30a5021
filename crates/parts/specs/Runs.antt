-- The rows of a group, and whether it is a part. These are promises of inner functions: what a buffer's rows tell of the package that it
-- holds, if it holds one.
-- Assumes nothing.
use Rattle.std.specs.Prelude.{ℕ, ◌+◌, ◌-◌, ◌≤◌, ◌<◌, ◌≡◌, Bool, true, List, length, take, drop}
use Rattle.chars.specs.Folding.{equivalent}
use Rattle.model.specs.Sets.{Bytes, Each}
use Rattle.model.specs.Places.{lead}
use Rattle.model.specs.Fields.{prefix_of}
use Rattle.model.specs.Package.{Item, State, group, is_part, part_refusal}
use Rattle.model.specs.Calls.{Numbered}
use Rattle.store.specs.Layout.{slot_count}
use Rattle.store.specs.Rows.{row_at, field_of}
use Rattle.contract.specs.Holds.{Holds}

-- the items in the rows from f up to t, t itself not included
abbrev pub run : ℕ → ℕ → List Item → List Item
run f t is = take (t - f) (drop f is)

-- the item is of the group p
abbrev pub in_group : Bytes → Item → Bool
in_group p i = equivalent (prefix_of i.name) p

-- a walk from row i towards row n has come to row e, over items of the group p only. (e is at most the greater of i and n.)
pub record Ending (b : List ℕ) (i n : ℕ) (p : Bytes) (e : ℕ) : Type 0 where
  pub low : i ≤ e
  pub high : (m : ℕ) → i ≤ m → n ≤ m → e ≤ m
  pub is : (S : State) → Holds b S → n ≡ length S.items → i + lead (in_group p) (drop i S.items) ≡ e + lead (in_group p) (drop e S.items)

-- the items of the group p that stand side by side from row i on end before row e
pub record Ended (b : List ℕ) (i n : ℕ) (p : Bytes) (e : ℕ) : Type 0 where
  pub low : i ≤ e
  pub high : (m : ℕ) → i ≤ m → n ≤ m → e ≤ m
  pub is : (S : State) → Holds b S → n ≡ length S.items → e ≡ i + lead (in_group p) (drop i S.items)

-- the items of the group p that stand side by side end before row r, where the row before row e is one of them
pub record EndedBehind (b : List ℕ) (e n : ℕ) (p : Bytes) (r : ℕ) : Type 0 where
  pub low : e ≤ r
  pub high : r ≤ n
  pub is : (S : State) → Holds b S → n ≡ length S.items → 0 < e → equivalent (field_of (row_at b (e - 1)) 0) p ≡ true → r ≡ e + lead (in_group p) (drop e S.items)

-- z tells whether the rows from f to t, which are of one group, are a part
pub record Judged (b : List ℕ) (f t : ℕ) (z : Bool) : Type 0 where
  pub is : (S : State) → Holds b S → t ≤ length S.items → (p : Bytes) → Each (λ (i : Item). in_group p i ≡ true) (run f t S.items) → z ≡ is_part (run f t S.items)

-- the group p stands in the rows from f to t
pub record Grouped (b : List ℕ) (p : Bytes) (f t : ℕ) : Type 0 where
  pub order : f ≤ t
  pub few : t ≤ slot_count
  pub inside : (S : State) → Holds b S → t ≤ length S.items
  pub is : (S : State) → Holds b S → group p S.items ≡ run f t S.items
  pub alike : (S : State) → Holds b S → Each (λ (i : Item). in_group p i ≡ true) (run f t S.items)

-- z tells whether the group p is a part
pub record PartOf (b : List ℕ) (p : Bytes) (z : Bool) : Type 0 where
  pub is : (S : State) → Holds b S → z ≡ is_part (group p S.items)

-- k is the refusal of p, asked for as a part, 0 for none
pub record PartRefused (b : List ℕ) (p : Bytes) (k : ℕ) : Type 0 where
  pub numbered : Numbered k
  pub is : (S : State) → Holds b S → k ≡ part_refusal S p
