-- The program's account: what it has read, and what it has printed for it.
-- Assumes nothing.
use Rattle.std.specs.Prelude.{◌≡◌, ℕ, ◌<◌, ◌≤◌, ◌++◌, length, take}
use Rattle.model.specs.Sets.{Bytes}
use Rattle.model.specs.Package.{State}
use Rattle.model.specs.Sheet.{lines_of, shown, sheet}
use Rattle.contract.specs.Holds.{Holds}
use Rattle.lines.specs.Gathering.{Unended}
use Rattle.commands.specs.Feeding.{most_shown}
use Rattle.sheet.specs.Passing.{Passed}

-- the program between two calls. The bytes p hold a package, n bytes of a line have come, and the bytes `ahead` of the input are still to be run; there is room
-- for a line and for what one prints. `input` has been read and `printed` has been printed: whatever is read later, `sheet` of all of it (with C of 30,000) is
-- what has been printed, followed by what the package as it is prints for the rest
pub record Ready (p line : Bytes) (n : ℕ) (ahead out : Bytes) (read written : ℕ) : Type 0 where
  pub input : Bytes
  pub printed : Bytes
  pub came : Passed read input
  pub went : Passed written printed
  pub state : State
  pub holds : Holds p state
  pub begun : Unended (take n line)
  pub wide : 1024 < length line
  pub room : most_shown ≤ length out
  pub is : (later : Bytes) → sheet (input ++ later) ≡ printed ++ shown state (lines_of (take n line ++ (ahead ++ later)))

-- THE STATEMENT. A whole run: an input has been read, and `sheet` of it has been printed
pub record Whole (read written : ℕ) : Type 0 where
  pub input : Bytes
  pub came : Passed read input
  pub went : Passed written (sheet input)
