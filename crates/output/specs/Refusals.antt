-- Why a call is refused.
-- Assumes nothing.
use Rattle.std.specs.Prelude.{ℕ, Result, Ok, Err}
use Rattle.output.specs.declared.refusals.Refusal.{Refusal}
use Rattle.output.specs.declared.refusals.Refusal.TheVariants as refusal

-- the number of each in document 01, "Answers", and in document 02
abbrev pub number : Refusal → ℕ
number refusal.NotAPackage = 1
number refusal.BadStart = 2
number refusal.OutputTooShort = 3
number refusal.NotAPartName = 4
number refusal.Reserved = 5
number refusal.BadSuffix = 6
number refusal.BadType = 7
number refusal.BadRelationshipField = 8
number refusal.BadTarget = 9
number refusal.Taken = 10
number refusal.Derivable = 11
number refusal.PiecesDisagree = 12
number refusal.NotHeld = 13
number refusal.NoMediaType = 14
number refusal.Full = 15
number refusal.UnreadableLine = 16
number refusal.BadPieceCount = 17
number refusal.WrongForm = 18
number refusal.MalformedStream = 19
number refusal.TooDeep = 20

-- the number of a judgement, 0 where it refuses nothing
abbrev pub number_of : {A : Type 0} → Result A Refusal → ℕ
number_of (Ok x) = 0
number_of (Err r) = number r
