-- What a line does, on the bytes of a package and of an output.
-- Assumes nothing.
use Rattle.std.specs.Prelude.{ℕ, ◌≤◌, ◌≡◌, length}
use Rattle.output.specs.Sends.{Sent}
use Rattle.model.specs.Sets.{Bytes}
use Rattle.model.specs.Package.{State}
use Rattle.model.specs.Calls.{Change, change}
use Rattle.model.specs.Sheet.{line_read, shown_by}
use Rattle.contract.specs.Holds.{Holds}

-- a change was made of the package in p, or refused; n is its number
pub record ChangeRun (c : Change) (p : Bytes) (n : ℕ) (p' : Bytes) : Type 0 where
  pub is : (S : State) → Holds p S → (n ≡ (change S c).0.number) × Holds p' (change S c).1
  pub size : length p' ≡ length p

-- THE PROMISE of a line l that was run on the package in p: n bytes are printed
pub record LineRun (p l out : Bytes) (n : ℕ) (p' out' : Bytes) : Type 0 where
  -- whatever abstract package the bytes hold, what the line prints was sent to the output
  pub shows : (S : State) → Holds p S → Sent out 0 (shown_by S (line_read l)).0 n out'
  -- and the bytes hold the package after the line
  pub holds : (S : State) → Holds p S → Holds p' (shown_by S (line_read l)).1
  -- a bound for every buffer
  pub few : n ≤ 254720
  -- the lent bytes keep their number
  pub size : length p' ≡ length p
