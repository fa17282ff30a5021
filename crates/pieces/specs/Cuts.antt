-- What the inner functions of a cut promise.
-- Assumes nothing.
use Rattle.std.specs.Prelude.{ℕ, ◌≤◌, ◌<◌, ◌≡◌, Bool, true, not, List, [], ◌∷◌, length, get_or}
use Rattle.chars.specs.Bytes.{within}
use Rattle.model.specs.Sets.{Bytes}
use Rattle.model.specs.Fields.{when, first}
use Rattle.model.specs.Package.{State, no_item, group, is_part, spelling}
use Rattle.model.specs.Cutting.{quotient, rest, is_whole, cut_made, overfull, cut_refusal}
use Rattle.model.specs.Calls.{Numbered}
use Rattle.contract.specs.Holds.{Lies, Holds}
use Rattle.contract.specs.declared.answers.Cut.{Cut}
use Rattle.parts.specs.Runs.{Grouped}

-- the part of the name is the item in row r
abbrev pub WholeAt : State → Bytes → ℕ → Type 0
WholeAt S name r = (r < length S.items) × (group name S.items ≡ get_or S.items r no_item ∷ [])

-- z tells whether there is room for n pieces in the place of a whole part whose spelling has p bytes
pub record CutRoom (b : List ℕ) (p n : ℕ) (z : Bool) : Type 0 where
  pub is : (S : State) (name : Bytes) → Holds b S → is_part (group name S.items) ≡ true → is_whole (group name S.items) ≡ true
      → p ≡ length (spelling (group name S.items)) → z ≡ not (overfull (cut_made S name n))

-- k is the refusal of a cut into n pieces by the rows from f to t, in which the part's group stands
pub record CutRefused (b : List ℕ) (f t n k : ℕ) : Type 0 where
  pub is : (S : State) (name : Bytes) → Holds b S → Grouped b name f t
      → k ≡ first (when (not (is_part (group name S.items))) 13
      ∷ when (not (is_whole (group name S.items))) 18
      ∷ when (not (within 1 256 n)) 17
      ∷ when (overfull (cut_made S name n)) 15
      ∷ [])
  pub numbered : Numbered k
  pub range : k ≡ 0 → (0 < n) × (n ≤ 256)

-- the item in row r, the part of some name, was split into n pieces of the spelling p, of q bytes and the first x of one more
pub record Divided (b m : List ℕ) (r : ℕ) (p : Bytes) (n q x : ℕ) : Type 0 where
  pub is : (S : State) (name : Bytes) → Holds b S → cut_refusal S name n ≡ 0 → WholeAt S name r → p ≡ spelling (group name S.items)
      → q ≡ quotient (group name S.items) n → x ≡ rest (group name S.items) n → Lies m (cut_made S name n)

-- a is the answer to a cut of the item in row r, and m the buffer after it
pub record CutRow (b m : List ℕ) (r n : ℕ) (a : Cut) : Type 0 where
  pub is : (S : State) (name : Bytes) → Holds b S → cut_refusal S name n ≡ 0 → WholeAt S name r
      → (a.size ≡ quotient (group name S.items) n) × (a.rest ≡ rest (group name S.items) n) × Lies m (cut_made S name n)
