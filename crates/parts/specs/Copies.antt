-- Copying and measuring the content of a run of items. These are promises of inner functions.
-- Assumes nothing.
use Rattle.std.specs.Prelude.{ℕ, ◌+◌, ◌-◌, ◌*◌, ◌^◌, ◌≤◌, ◌≡◌, List, ◌++◌, length, take, drop}
use Rattle.output.specs.Sends.{Sent}
use Rattle.model.specs.Package.{State, content}
use Rattle.contract.specs.Holds.{Holds}
use Rattle.parts.specs.Runs.{run}

-- what an output of so many bytes takes of the content of the rows from f to t, from the offset on
abbrev pub taken : State → ℕ → ℕ → ℕ → ℕ → List ℕ
taken S f t offset room = take room (drop offset (content (run f t S.items)))

-- the rows from f to i are copied: text stands in the output up to place at, and of the other rows skip bytes are still to be skipped
pub record Copying (b : List ℕ) (f t offset : ℕ) (out : List ℕ) (i at skip : ℕ) (out' : List ℕ) : Type 0 where
  pub text : List ℕ
  pub sent : Sent out 0 text at out'
  pub fits : at ≤ length out
  pub is : (S : State) → Holds b S → t ≤ length S.items → taken S f t offset (length out) ≡ text ++ taken S i t skip (length out - at)

-- all of them are copied
pub record Copied (b : List ℕ) (f t offset : ℕ) (out : List ℕ) (n : ℕ) (out' : List ℕ) : Type 0 where
  pub is : (S : State) → Holds b S → t ≤ length S.items → Sent out 0 (taken S f t offset (length out)) n out'

-- the rows from f to i hold n bytes together
pub record Measuring (b : List ℕ) (f t i n : ℕ) : Type 0 where
  pub few : n ≤ i * 2 ^ 32
  pub is : (S : State) → Holds b S → t ≤ length S.items → length (content (run f t S.items)) ≡ n + length (content (run i t S.items))

-- the rows from f to t do
pub record Measured (b : List ℕ) (f t n : ℕ) : Type 0 where
  pub is : (S : State) → Holds b S → t ≤ length S.items → n ≡ length (content (run f t S.items))
