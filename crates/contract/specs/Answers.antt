-- The number and the values of documents 01 and 02 for each case of the engine's answers.
-- Assumes nothing.
use Rattle.std.specs.Prelude.{ℕ, List, [], ◌∷◌, Result, Ok, Err}
use Rattle.output.specs.declared.refusals.Refusal.{Refusal}
use Rattle.output.specs.Refusals.{number}
use Rattle.output.specs.Answers.{Answer, answer, refusing}
use Rattle.model.specs.Calls.{done, refused}
use Rattle.contract.specs.declared.answers.Cut.{Cut}
use Rattle.contract.specs.declared.answers.Totals.{Totals}

-- of a call that answers that it is done, or a refusal
abbrev pub of_done : Result Unit Refusal → Answer
of_done (Ok x) = done
of_done (Err r) = refused (number r)

abbrev pub of_cut : Result Cut Refusal → Answer
of_cut (Ok c) = answer 0 (c.size ∷ c.rest ∷ []) []
of_cut (Err r) = refusing 2 r []

-- of a find: the item's length
abbrev pub of_found : Result ℕ Refusal → Answer
of_found (Ok n) = answer 0 (n ∷ []) []
of_found (Err r) = refused (number r)

abbrev pub of_totals : Result Totals Refusal → Answer
of_totals (Ok t) = answer 0 (t.items ∷ t.parts ∷ t.charge ∷ []) []
of_totals (Err r) = refusing 3 r []

-- a view's part of the package is its only answer
abbrev pub of_view : List ℕ → Answer
of_view b = answer 0 [] b
