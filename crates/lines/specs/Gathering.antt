-- A line that comes in pieces.
-- Assumes nothing.
use Rattle.std.specs.Prelude.{ℕ, ◌+◌, ◌≡◌, ◌++◌, length, take, drop}
use Rattle.chars.specs.Lists.{index_of}
use Rattle.model.specs.Sets.{Bytes}
use Rattle.model.specs.Texts.{line_feed}

-- a line whose line feed has not come yet
abbrev pub Unended : Bytes → Type 0
Unended c = index_of line_feed c ≡ length c

-- what a piece has of a line from a place on: up to a line feed, or to its end
abbrev pub stretch : Bytes → ℕ → Bytes
stretch piece from = take (index_of line_feed (drop from piece)) (drop from piece)

-- n bytes of a line were there, and its next stretch comes behind them, as much as there is room for
abbrev pub together : Bytes → ℕ → Bytes → ℕ → Bytes
together line n piece from = take (length line) (take n line ++ stretch piece from)

pub record Gathers (line : Bytes) (n : ℕ) (piece : Bytes) (from : ℕ) (size at : ℕ) (line' : Bytes) : Type 0 where
  pub size_is : size ≡ length (together line n piece from)
  pub at_is : at ≡ from + index_of line_feed (drop from piece)
  pub line_is : line' ≡ together line n piece from ++ drop (length (together line n piece from)) line
