-- What the functions that write a stream send to the output. These are promises of inner functions: some text in any case, so that its length
-- is bounded, and the right one where the buffer is sound.
-- Assumes nothing.
use Rattle.std.specs.Prelude.{ℕ, zero, suc, ◌+◌, ◌-◌, ◌*◌, ◌^◌, ◌≤◌, ◌<◌, ◌≡◌, length}
use mathlib.Core.List.{List, [], ◌++◌, flat_map}
use Rattle.std.proofs.Math.Seq.{slice}
use Rattle.output.specs.Answers.{Answer, Text, written}
use Rattle.output.specs.Sends.{Sent}
use Rattle.model.specs.Sets.{Bytes}
use Rattle.model.specs.Texts.{declaration}
use Rattle.model.specs.Calls.{Numbered}
use Rattle.store.specs.Layout.{slot_count, count_of, used_of}
use Rattle.store.specs.Rows.{Row, row_at, size_at, rows_of}
use Rattle.store.specs.Packages.{Sound}
use Rattle.streams.specs.EntryLines.{line_of}

-- the lines of the rows from f up to t, t itself not included
abbrev pub row_lines : ℕ → ℕ → List Row → Bytes
row_lines f t rows = flat_map line_of (slice f t rows)

-- no line is longer: a field is below 2 ^ 32 bytes, and each of its bytes is written as five at most
abbrev pub line_limit : ℕ
line_limit = 2 ^ 36

-- the line of row i was sent
pub record Lined (b : List ℕ) (i : ℕ) (out : List ℕ) (at next : ℕ) (out' : List ℕ) : Type 0 where
  pub text : Bytes
  pub sent : Sent out at text next out'
  pub few : length text ≤ line_limit
  pub is : Sound b → i < count_of b → text ≡ line_of (row_at b i)

-- of the rows from f to t, those up to i were sent
pub record Listing (b : List ℕ) (f t : ℕ) (out : List ℕ) (at i next : ℕ) (out' : List ℕ) : Type 0 where
  pub text : Bytes
  pub sent : Sent out at text next out'
  pub low : f ≤ i
  pub high : i - f ≤ t - f
  pub few : length text ≤ (i - f) * line_limit
  pub is : Sound b → t ≤ count_of b → row_lines f t (rows_of b) ≡ text ++ row_lines i t (rows_of b)

-- all of them were sent
pub record Listed (b : List ℕ) (f t : ℕ) (out : List ℕ) (at next : ℕ) (out' : List ℕ) : Type 0 where
  pub text : Bytes
  pub sent : Sent out at text next out'
  pub few : length text ≤ slot_count * line_limit
  pub is : Sound b → t ≤ count_of b → text ≡ row_lines f t (rows_of b)

-- the XML declaration, a head, the lines of the rows from f to t, and a foot
abbrev pub stream_of : List ℕ → ℕ → ℕ → Bytes → Bytes → Bytes
stream_of b f t head foot = declaration ++ (head ++ (row_lines f t (rows_of b) ++ foot))

pub record Streamed (b : List ℕ) (f t : ℕ) (head foot : Bytes) (out : List ℕ) (next : ℕ) (out' : List ℕ) : Type 0 where
  pub is : Sound b → t ≤ count_of b → Sent out 0 (stream_of b f t head foot) next out'

-- the bytes of the first n rows together, as the slots tell
unfoldable pub sizes_of : List ℕ → ℕ → ℕ
sizes_of b zero = 0
sizes_of b (suc n) = sizes_of b n + size_at b n

-- and those of the rows from f up to t
abbrev pub run_size : List ℕ → ℕ → ℕ → ℕ
run_size b f t = sizes_of b t - sizes_of b f

-- a walk from row f towards row t has come to row i, over n bytes
pub record Summing (b : List ℕ) (f t i n : ℕ) : Type 0 where
  pub low : f ≤ i
  pub high : i - f ≤ t - f
  pub few : n ≤ i * 2 ^ 34
  pub is : n + sizes_of b f ≡ sizes_of b i

-- a is the answer of a call that writes the stream. A foreign buffer may have rows that all lie in one place: where they have more bytes than all rows
-- use, nothing is written
pub record Answered (b : List ℕ) (f t : ℕ) (head foot : Bytes) (out : List ℕ) (a : Answer) : Type 0 where
  pub kept : (a.number ≡ 0 → ⊥) → a.output ≡ out
  pub numbered : Numbered a.number
  pub foreign : used_of b < run_size b f t → a.number ≡ 13
  pub is : Sound b → a ≡ written (Text (stream_of b f t head foot) []) out
