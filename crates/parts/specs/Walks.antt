-- A walk over the parts, in folded order. These are promises of inner functions.
-- Assumes nothing.
use Rattle.std.specs.Prelude.{ℕ, ◌≤◌, ◌<◌, ◌≡◌, List, [], length, get_or, drop}
use Rattle.model.specs.Package.{State, parts, spelling}
use Rattle.store.specs.Rows.{row_at, field_of}
use Rattle.contract.specs.Holds.{Holds}

-- a walk over n items, to the part of the number k at most, has come to row i, past m parts
pub record Walking (b : List ℕ) (n k i m : ℕ) : Type 0 where
  pub within : i ≤ n
  pub few : m ≤ i
  pub short : m ≤ k
  pub passed : (S : State) → Holds b S → n ≡ length S.items → m ≤ length (parts S.items)
  pub is : (S : State) → Holds b S → n ≡ length S.items → drop m (parts S.items) ≡ parts (drop i S.items)

-- it has come to the end, past all parts; or it has stopped at the part of the number k, whose first row is i
pub record Walked (b : List ℕ) (n k i m : ℕ) : Type 0 where
  pub ended : (S : State) → Holds b S → n ≡ length S.items → n ≤ i → (m ≡ length (parts S.items)) × (m ≤ k)
  pub stopped : (S : State) → Holds b S → n ≡ length S.items → i < n → (k < length (parts S.items)) × (spelling (get_or (parts S.items) k []) ≡ field_of (row_at b i) 0)
