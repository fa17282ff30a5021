-- The listing of the parts. These are promises of inner functions: what is written for the package that a buffer holds, if it holds one.
-- Assumes nothing.
use Rattle.std.specs.Prelude.{ℕ, ◌+◌, ◌*◌, ◌≤◌, ◌<◌, ◌≡◌, Bool, cond, length, drop}
use mathlib.Core.List.{[], ◌++◌, flat_map}
use Rattle.output.specs.Sends.{Sent}
use Rattle.model.specs.Sets.{Bytes}
use Rattle.model.specs.Package.{State, parts, media_type_of}
use Rattle.model.specs.Sheet.{part_line, listing}
use Rattle.store.specs.Layout.{count_of}
use Rattle.store.specs.Rows.{row_at, field_of}
use Rattle.store.specs.Packages.{Sound}
use Rattle.contract.specs.Holds.{Holds}
use Rattle.parts.specs.Runs.{run, Judged}
use Rattle.lines.specs.Printing.{type_given}

-- s is field j of row i where that has at most so many bytes
pub record ShortField (b : Bytes) (i j most : ℕ) (s : Bytes) : Type 0 where
  pub few : length s ≤ most
  pub is : Sound b → i < count_of b → length (field_of (row_at b i) j) ≤ most → s ≡ field_of (row_at b i) j

-- t is the media type of the name, empty where it has none
pub record TypeText (b name t : Bytes) : Type 0 where
  pub few : length t ≤ 127
  pub is : (S : State) → Holds b S → type_given t ≡ media_type_of name S

-- the line of the part in the rows from f to t was sent
pub record PartSent (b : Bytes) (f t : ℕ) (out : Bytes) (n : ℕ) (out' : Bytes) : Type 0 where
  pub few : n ≤ 398
  pub is : (S : State) → Holds b S → t ≤ length S.items → Sent out 0 (part_line S (run f t S.items)) n out'

-- the same of a group, if it is a part
pub record GroupSent (b : Bytes) (f t : ℕ) (out : Bytes) (at next : ℕ) (out' : Bytes) : Type 0 where
  pub part : Bool
  pub judged : Judged b f t part
  pub few : next ≤ at + 398
  pub is : (S : State) → Holds b S → t ≤ length S.items → Sent out at (cond part (part_line S (run f t S.items)) []) next out'

-- the lines of the parts before row i were sent
pub record ListedTo (S : State) (i : ℕ) (out : Bytes) (at : ℕ) (out' : Bytes) : Type 0 where
  pub text : Bytes
  pub sent : Sent out 0 text at out'
  pub is : listing S ≡ text ++ flat_map (part_line S) (parts (drop i S.items))

-- a walk over n items has come to row i
pub record GroupsSent (b : Bytes) (n i : ℕ) (out : Bytes) (at : ℕ) (out' : Bytes) : Type 0 where
  pub within : i ≤ n
  pub few : at ≤ 398 * i
  pub is : (S : State) → Holds b S → n ≡ length S.items → ListedTo S i out at out'

-- all lines were sent
pub record ListingSent (b out : Bytes) (n : ℕ) (out' : Bytes) : Type 0 where
  pub few : n ≤ 254720
  pub is : (S : State) → Holds b S → Sent out 0 (listing S) n out'
