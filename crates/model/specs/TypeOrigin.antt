-- Request 3 of document 02: how the media type of a part was arrived at.
-- Assumes nothing.
use Rattle.std.specs.Prelude.{ℕ, [], ◌∷◌, ◌++◌, leb, eqb, length, drop}
use Rattle.std.proofs.Math.Option.{Option, none, some}
use Rattle.output.specs.Answers.{Answer, answer, choose}
use Rattle.model.specs.Sets.{Bytes, lookup}
use Rattle.model.specs.Package.{Default, Override, State, name_key, key_of_override, part_refusal, default_for}

-- THE ENTRY that gives a part its media type, if there is one
pub data Origin : Type 0 where
  ByOverride : Override → Origin
  ByDefault : Default → Origin
  Neither : Origin

-- document 01's rule: "its Override, else the Default of its extension"
abbrev pub origin_in : Option Override → Option Default → Origin
origin_in (some o) d = ByOverride o
origin_in none (some d) = ByDefault d
origin_in none none = Neither

unfoldable pub origin_of : Bytes → State → Origin
origin_of s S = origin_in (lookup key_of_override (name_key s) S.overrides) (default_for s S.defaults)

-- THE ANSWER. "2 Override, 1 Default or 0 neither"
abbrev pub kind_of : Origin → ℕ
kind_of (ByOverride o) = 2
kind_of (ByDefault d) = 1
kind_of Neither = 0

-- "the entry's key, .. as it was spelled (neither: 0, nothing written)"
abbrev pub key_of : Origin → Bytes
key_of (ByOverride o) = o.name
key_of (ByDefault d) = d.extension
key_of Neither = []

-- the kind, "then the length of the entry's key, written out"; "3 going by the key", where document 01 has "the length as the first"
unfoldable pub keyed : ℕ → Bytes → Bytes → Answer
keyed kind key output =
    choose (leb (length key) (length output)) (answer 0 (kind ∷ length key ∷ []) (key ++ drop (length key) output))
    (answer 3 (length key ∷ 0 ∷ []) output)

-- "Its other refusals are that call's": the media type call's 4 and 13. (Where that call answers 14, this one answers neither.)
unfoldable pub type_origin : State → Bytes → Bytes → Answer
type_origin S name output =
    choose (eqb (part_refusal S name) 0) (keyed (kind_of (origin_of name S)) (key_of (origin_of name S)) output)
    (answer (part_refusal S name) (0 ∷ 0 ∷ []) output)
