-- The answer of the call that tells how a media type was arrived at.
-- Assumes nothing.
use Rattle.std.specs.Prelude.{ℕ, List, [], ◌∷◌, Result, Ok, Err}
use Rattle.output.specs.Answers.{Answer, answer, failing}
use Rattle.output.specs.declared.refusals.Unwritten.{Unwritten}
use Rattle.types.specs.declared.origin.TypeOrigin.{TypeOrigin}
use Rattle.types.specs.declared.origin.TypeOrigin.TheVariants.{Override, Default, Neither}

-- document 02's number and values for each case: "2 Override, 1 Default or 0 neither, then the length of the entry's key"; "A refusal answers
-- its number and 0 for every value (3: the length as the first)"
abbrev pub of_type_origin : Result TypeOrigin Unwritten → List ℕ → Answer
of_type_origin (Ok (Override n)) out = answer 0 (2 ∷ n ∷ []) out
of_type_origin (Ok (Default n)) out = answer 0 (1 ∷ n ∷ []) out
of_type_origin (Ok Neither) out = answer 0 (0 ∷ 0 ∷ []) out
of_type_origin (Err u) out = failing 2 u out
