-- Lists of calls, one after the other.
-- Assumes nothing.
use Prim.Native.Nat.{ℕ, suc}
use mathlib.Core.Path.{◌≡◌, refl, ap}
use mathlib.Core.List.{List, [], ◌∷◌, ◌++◌}
use lib.ListN.{length}
use Rattle.output.specs.Answers.{Answer}
use Rattle.model.specs.Package.{State}
use Rattle.model.specs.Calls.{Call, step, answers, after}

pub answers_append : (room : ℕ) (S : State) (a b : List Call) →
    answers room S (a ++ b) ≡ answers room S a ++ answers room (after room S a) b
unfolding answers after
answers_append room S [] b = refl
answers_append room S (c ∷ a) b = ap (λ (l : List Answer). (step room S c).0 ∷ l) (answers_append room (step room S c).1 a b)

pub after_append : (room : ℕ) (S : State) (a b : List Call) → after room S (a ++ b) ≡ after room (after room S a) b
unfolding after
after_append room S [] b = refl
after_append room S (c ∷ a) b = after_append room (step room S c).1 a b

-- every call has one answer
pub answers_length : (room : ℕ) (S : State) (a : List Call) → length (answers room S a) ≡ length a
unfolding answers
answers_length room S [] = refl
answers_length room S (c ∷ a) = ap suc (answers_length room (step room S c).1 a)
