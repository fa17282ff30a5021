-- An input of the program `sheet`, fed in pieces: what is to be printed for it.
-- Assumes nothing.
use Rattle.std.specs.Prelude.{ℕ, ◌+◌, ◌≤◌, ◌<◌, ◌≡◌, [], ◌++◌, length, take, drop}
use Rattle.output.specs.Answers.{Answer}
use Rattle.model.specs.Sets.{Bytes}
use Rattle.model.specs.Calls.{Start, overhead}
use Rattle.model.specs.Sheet.{sheet}
use Rattle.contract.specs.Ran.{Ran}
use Rattle.commands.specs.Feeding.{most_shown, Feeds, Ends}

-- "C is 30,000."
abbrev pub sheet_capacity : ℕ
sheet_capacity = 30000

-- what is printed for the rest of an input, from the bytes p of a package and the n bytes of a line on: pieces are fed, each from a place on,
-- and after each feed so many bytes of the output are printed; then the input ends. (What follows the place in a piece is fed next, then what
-- follows the piece.)
pub data PrintedFor : Bytes → Bytes → ℕ → Bytes → Bytes → Type 0 where
  ended : {p line out out' : Bytes} {n k : ℕ} → most_shown ≤ length out → Ends p line n out k out' → PrintedFor p line n [] (take k out')
  fed : {p line piece out p' line' out' printed : Bytes} {n from n' from' k : ℕ} (later : Bytes) → from ≤ length piece → most_shown ≤ length out → length line' ≡ length line
      → Feeds p line n piece from out n' from' k p' line' out' → PrintedFor p' line' n' (drop from' piece ++ later) printed
      → PrintedFor p line n (drop from piece ++ later) (take k out' ++ printed)

-- THE STATEMENT. After a start with C of 30,000 in a buffer that has room for it, what is printed for an input is document 01's
abbrev pub EveryInput : Type 0
EveryInput = (o p : Bytes) (a : Answer) (line input printed : Bytes) → sheet_capacity + overhead ≤ length o → Ran (Start sheet_capacity) o a p → 1024 < length line
    → PrintedFor p line 0 input printed → printed ≡ sheet input
