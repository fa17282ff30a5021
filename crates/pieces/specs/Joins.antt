-- What the inner function of a join promises.
-- Assumes nothing.
use Rattle.std.specs.Prelude.{ℕ, ◌+◌, ◌≤◌, ◌≡◌, true, List, length, take, drop}
use Rattle.model.specs.Sets.{Bytes}
use Rattle.model.specs.Package.{State, group, is_part}
use Rattle.model.specs.Cutting.{join_made}
use Rattle.contract.specs.Holds.{Lies, Holds}

-- the n items from row r on, the part of some name, were made one
pub record Merged (b m : List ℕ) (r n : ℕ) : Type 0 where
  pub is : (S : State) (name : Bytes) → Holds b S → is_part (group name S.items) ≡ true → r + n ≤ length S.items
      → group name S.items ≡ take n (drop r S.items) → Lies m (join_made S name)
