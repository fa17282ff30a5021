-- What a call that writes answers, and what its output then holds.
-- Assumes nothing.
use Rattle.std.specs.Prelude.{ℕ, ◌-◌, Bool, true, false, cond, List, [], ◌∷◌, ◌++◌, leb, eqb, length, drop, replicate, Result, Ok, Err}
use Rattle.output.specs.declared.refusals.Refusal.{Refusal}
use Rattle.output.specs.declared.refusals.Unwritten.{Unwritten}
use Rattle.output.specs.declared.refusals.Unwritten.TheVariants as unwritten
use Rattle.output.specs.Refusals.{number}

-- what a call comes to: what it writes, and its values besides the length; or the number of its refusal
pub data Outcome : Type 0 where
  Text : (text values : List ℕ) → Outcome
  Refused : ℕ → Outcome

-- the outcome o, unless a field is refused: n is the number, 0 for none
abbrev pub unless : ℕ → Outcome → Outcome
unless n o = cond (eqb n 0) o (Refused n)

-- the outcome o, provided that a field passes its test; else the number n is the refusal
abbrev pub provided : Bool → ℕ → Outcome → Outcome
provided true n o = o
provided false n o = Refused n

-- the number, the values, and the bytes of the output after the call
pub record Answer : Type 0 where
  pub number : ℕ
  pub values : List ℕ
  pub output : List ℕ

abbrev pub answer : ℕ → List ℕ → List ℕ → Answer
answer n vs o = record { number = n; values = vs; output = o }

abbrev pub choose : Bool → Answer → Answer → Answer
choose true a b = a
choose false a b = b

-- "A refusal answers its number and 0 for every value": count is how many values the call answers
abbrev pub refusing : ℕ → Refusal → List ℕ → Answer
refusing count r out = answer (number r) (replicate count 0) out

-- "(3: the length as the first)", of a call that writes
abbrev pub failing : ℕ → Unwritten → List ℕ → Answer
failing count (unwritten.TooShort n) out = answer 3 (n ∷ replicate (count - 1) 0) out
failing count (unwritten.Refused r) out = refusing count r out

-- document 01's number and value for each answer of a call that writes one text: its length
abbrev pub of_written : Result ℕ Unwritten → List ℕ → Answer
of_written (Ok n) out = answer 0 (n ∷ []) out
of_written (Err u) out = failing 1 u out

-- "where it writes bytes, their number is the value"; "Output past the written bytes is kept"; "3 output too short (carries the length
-- needed)"; "A refusal answers its number and 0 for every value (3: the length as the first); .. outputs stay unchanged". count is how many
-- values the call answers
unfoldable pub filled : ℕ → List ℕ → Outcome → Answer
filled count output (Refused k) = answer k (replicate count 0) output
filled count output (Text t values) =
    choose (leb (length t) (length output)) (answer 0 (length t ∷ values) (t ++ drop (length t) output))
    (answer 3 (length t ∷ replicate (count - 1) 0) output)

-- a call whose only value is the length
abbrev pub written : Outcome → List ℕ → Answer
written o out = filled 1 out o
