-- What every call promises, and a run of calls.
-- Assumes nothing.
use Rattle.std.specs.Prelude.{ℕ, ◌≡◌, Bool, true, false, List, [], ◌∷◌, length, replicate}
use Rattle.output.specs.Answers.{Answer, answer}
use Rattle.model.specs.Package.{State, empty}
use Rattle.model.specs.Calls.{Find, View, Totals, Call, Start, Looks, Changes, CutPart, TypeOrigin, Prints, done, refused, Numbered, start_refusal, step, value_count, lent}
use Rattle.store.specs.Packages.{is_package}
use Rattle.contract.specs.Holds.{Holds}

-- the answer where the buffer itself is turned away by the number n, with "0 for every value"; a view has no number, and is empty
abbrev pub turned_away : ℕ → Call → Answer
turned_away n (Start C) = refused n
turned_away n (Looks (Find name)) = refused n
turned_away n (Looks (View name)) = answer 0 [] []
turned_away n (Looks Totals) = answer n (0 ∷ 0 ∷ 0 ∷ []) []
turned_away n (Changes c) = refused n
turned_away n (CutPart name k) = answer n (0 ∷ 0 ∷ []) []
turned_away n (TypeOrigin name output) = answer n (0 ∷ 0 ∷ []) output
turned_away n (Prints p output) = answer n (replicate (value_count p) 0) output

-- "1 the buffer is no package". (A start is never asked this: it minds no bytes.)
abbrev pub no_package : Call → Answer
no_package c = turned_away 1 c

abbrev pub starts : Call → Bool
starts (Start C) = true
starts (Looks q) = false
starts (Changes c) = false
starts (CutPart name n) = false
starts (TypeOrigin name output) = false
starts (Prints p output) = false

-- a start minds no bytes: it makes an empty package of any buffer that has room for it, or refuses
abbrev pub Begun : Call → List ℕ → Answer → List ℕ → Type 0
Begun (Start C) p a q = (start_refusal (length p) C ≡ 0 → (a ≡ done) × Holds q (empty C)) × ((start_refusal (length p) C ≡ 0 → ⊥) → a ≡ refused (start_refusal (length p) C))
Begun (Looks l) p a q = Unit {0}
Begun (Changes c) p a q = Unit {0}
Begun (CutPart name n) p a q = Unit {0}
Begun (TypeOrigin name output) p a q = Unit {0}
Begun (Prints w output) p a q = Unit {0}

-- THE PROMISE of every call. It ran on the lent bytes p, answered a, and left the bytes q. The program has one choice, what it answers where
-- the bytes pass the test and hold no abstract package: "For a foreign buffer that passes, answers are free, but the call ends and a refusal
-- still changes nothing." Whichever it makes, `kept`, `numbered` and `sized` hold
pub record Ran (call : Call) (p : List ℕ) (a : Answer) (q : List ℕ) : Type 0 where
  -- whatever abstract package the bytes hold, the answer is the ledger's, and the bytes then hold the ledger after the call
  pub ledger : (S : State) → Holds p S → (a ≡ (step (length p) S call).0) × Holds q (step (length p) S call).1
  -- "A refusal .. package and outputs stay unchanged", for all bytes, foreign ones too
  pub kept : (a.number ≡ 0 → ⊥) → (q ≡ p) × (a.output ≡ lent call)
  -- "Answer 1 is decided by a written test of the bytes": it is the answer where they fail it,
  pub foreign : starts call ≡ false → is_package p ≡ false → a ≡ no_package call
  -- and not where they pass; there too the call "refuses by a number from document 01" or document 02
  pub numbered : starts call ≡ false → is_package p ≡ true → Numbered a.number
  pub begun : Begun call p a q
  -- the lent bytes keep their number
  pub sized : length q ≡ length p

-- a run of calls on one package, each with its answer: "Each call of a list is lent the package as the call before left it, in full length"
pub data Runs : List ℕ → List (Call × Answer) → List ℕ → Type 0 where
  none : {p : List ℕ} → Runs p [] p
  more : {p q r : List ℕ} {c : Call} {a : Answer} {s : List (Call × Answer)} → Ran c p a q → Runs q s r → Runs p ((c, a) ∷ s) r
