-- What a function that writes into a lent output ensures of it.
-- Assumes nothing.
use Rattle.std.specs.Prelude.{ℕ, ◌+◌, ◌≤◌, ◌<◌, ◌≡◌, List, ◌++◌, length, drop}
use Rattle.base.specs.Buffer.{splice}

-- bytes were sent to place at of an output: the next place is counted in any case, and where they fit they stand there and nowhere else
pub record Sent (out : List ℕ) (at : ℕ) (bytes : List ℕ) (next : ℕ) (out' : List ℕ) : Type 0 where
  pub next_is : next ≡ at + length bytes
  pub fits : at + length bytes ≤ length out → out' ≡ splice out at bytes

-- a text is written to the start of an output where all of it fits, else the output stays; its length is told in any case
pub record Fitted (out text : List ℕ) (n : ℕ) (out' : List ℕ) : Type 0 where
  pub is : n ≡ length text
  pub fits : n ≤ length out → out' ≡ text ++ drop n out
  pub short : length out < n → out' ≡ out
