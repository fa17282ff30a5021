-- What is printed for an input that comes in pieces. The bytes of a line that no line feed has ended yet are kept in a buffer of more than 1,024 bytes.
-- Assumes nothing.
use Rattle.std.specs.Prelude.{ℕ, ◌+◌, ◌≤◌, ◌<◌, ◌≡◌, ◌++◌, length, take, drop}
use Rattle.output.specs.Sends.{Sent}
use Rattle.model.specs.Sets.{Bytes}
use Rattle.model.specs.Package.{State}
use Rattle.model.specs.Sheet.{lines_of, shown}
use Rattle.contract.specs.Holds.{Holds}
use Rattle.lines.specs.Gathering.{Unended}

-- no line prints more: a listing of 256 parts, each line with a name of 255 bytes and a type of 127
abbrev pub most_shown : ℕ
most_shown = 101888

-- what is printed for an input that begins with the n bytes of a line and goes on with a piece from a place; `later` follows the piece
abbrev pub rest : State → Bytes → ℕ → Bytes → ℕ → Bytes → Bytes
rest S line n piece from later = shown S (lines_of (take n line ++ (drop from piece ++ later)))

-- of that, the text was sent to the output; the rest is printed for the package `after`, the n' bytes of a line and the piece from the place from' on
pub record FedTo (S : State) (line : Bytes) (n : ℕ) (piece : Bytes) (from : ℕ) (out : Bytes) (n' from' k : ℕ) (p' line' out' : Bytes) : Type 0 where
  pub text : Bytes
  pub after : State
  pub sent : Sent out 0 text k out'
  pub holds : Holds p' after
  pub begun : Unended (take n' line')
  pub is : (later : Bytes) → rest S line n piece from later ≡ text ++ rest after line' n' piece from' later

-- the promise of an inner function: one line at most
pub record Steps (p line : Bytes) (n : ℕ) (piece : Bytes) (from : ℕ) (out : Bytes) (n' from' k : ℕ) (p' line' out' : Bytes) : Type 0 where
  pub onward : from < length piece → (from < from') × (from' ≤ length piece)
  pub small : k ≤ 254720
  pub few : (S : State) → Holds p S → k ≤ most_shown
  pub fed_to : (S : State) → Holds p S → 1024 < length line → Unended (take n line) → from ≤ length piece → FedTo S line n piece from out n' from' k p' line' out'

-- and of its loop: some lines, with room for one more
pub record Feeding (p line : Bytes) (n : ℕ) (piece : Bytes) (from : ℕ) (out : Bytes) (n' from' k : ℕ) (p' line' out' : Bytes) : Type 0 where
  pub low : from ≤ from'
  pub inside : from ≤ length piece → from' ≤ length piece
  pub fits : k ≤ length out
  pub room : most_shown ≤ length out → k + most_shown ≤ length out
  pub fed_to : (S : State) → Holds p S → 1024 < length line → Unended (take n line) → from ≤ length piece → FedTo S line n piece from out n' from' k p' line' out'

-- THE PROMISE of a feed. What is printed begins with the first k bytes of the output
pub record Round (S : State) (line : Bytes) (n : ℕ) (piece : Bytes) (from : ℕ) (out : Bytes) (n' from' k : ℕ) (p' line' out' : Bytes) : Type 0 where
  pub after : State
  pub holds : Holds p' after
  pub begun : Unended (take n' line')
  pub fits : k ≤ length out
  pub is : (later : Bytes) → rest S line n piece from later ≡ take k out' ++ rest after line' n' piece from' later

pub record Feeds (p line : Bytes) (n : ℕ) (piece : Bytes) (from : ℕ) (out : Bytes) (n' from' k : ℕ) (p' line' out' : Bytes) : Type 0 where
  pub onward : from < length piece → (from < from') × (from' ≤ length piece)
  pub is : (S : State) → Holds p S → 1024 < length line → Unended (take n line) → from ≤ length piece → most_shown ≤ length out → Round S line n piece from out n' from' k p' line' out'

-- and of the end of the input: what is printed for the n bytes of a line
pub record Ends (p line : Bytes) (n : ℕ) (out : Bytes) (k : ℕ) (out' : Bytes) : Type 0 where
  pub is : (S : State) → Holds p S → Unended (take n line) → most_shown ≤ length out → (k ≤ length out) × (shown S (lines_of (take n line)) ≡ take k out')
