-- Sources and targets of relationships.
-- Assumes nothing.
use Rattle.std.specs.Prelude.{ℕ, ◌≡◌, ◌<◌, Bool, true, ◌&&◌, cond, List, [], leb, eqb, length, Result, MatchResult}
use Rattle.chars.specs.Bytes.{ascii}
use Rattle.chars.specs.Lists.{is_empty, same}
use Rattle.names.specs.Names.{part_name, reserved}
use Rattle.names.specs.Iris.{iri}
use Rattle.iri.specs.Components.{scheme_of, authority_of, query_of, fragment_of}
use Rattle.iri.specs.References.{relative_path}
use Rattle.output.specs.Answers.{Outcome, Text, unless}
use Rattle.output.specs.Refusals.{number}
use Rattle.output.specs.declared.refusals.Refusal.{Refusal}
use Rattle.targets.specs.declared.targets.TargetMode.{TargetMode}
use Rattle.targets.specs.declared.targets.TargetMode.TheVariants as mode

-- "a source (`/` for the package, else an unreserved part name)": "4 not a part name; 5 reserved", 0 for none
unfoldable pub source_refusal : List ℕ → ℕ
source_refusal s = cond (same s (ascii "/")) 0 (cond (part_name s) (cond (reserved s) 5 0) 4)

-- "an IRI without scheme, query, fragment or leading `//`"
unfoldable pub internal : List ℕ → Bool
internal t = iri t && is_empty (scheme_of t) && is_empty (authority_of t) && is_empty (query_of t) && is_empty (fragment_of t)

-- "resolved against the source as base path" (such a base has an authority, as in a pack IRI; and the target is a path)
unfoldable pub resolve_path : List ℕ → List ℕ → List ℕ
resolve_path source target = relative_path true source target

-- "it must be a part name, not reserved": "9 target (also one that resolves to no part name)", 5, 0 for none
unfoldable pub internal_refusal : List ℕ → List ℕ → ℕ
internal_refusal source target =
    cond (internal target && part_name (resolve_path source target)) (cond (reserved (resolve_path source target)) 5 0) 9

-- the number of a mode: "0 internal, 1 external"
abbrev pub mode_number : TargetMode → ℕ
mode_number mode.Internal = 0
mode_number mode.External = 1

-- the mode of a number; one above 1 is refused by 8
abbrev pub ModeFrom : ℕ → Result TargetMode Refusal → Type 0
ModeFrom n read = MatchResult read (λ m. mode_number m ≡ n) (λ r. (number r ≡ 8) × (1 < n))

-- "a mode (0 internal, 1 external) and a target. An external target is an IRI." (A mode above 1 is refused by 8 before this is asked; here it
-- counts as external.)
unfoldable pub target_refusal : ℕ → List ℕ → List ℕ → ℕ
target_refusal mode source target = cond (eqb mode 0) (internal_refusal source target) (cond (iri target) 0 9)

-- the same where the source is not judged yet: one above 255 bytes is no part name
abbrev pub target_refusal_from : ℕ → List ℕ → List ℕ → ℕ
target_refusal_from mode source target = cond (leb (length source) 255) (target_refusal mode source target) 4

-- an internal target, resolved: the source by 4, 5, then the target by 9, 5
unfoldable pub resolve_target : List ℕ → List ℕ → Outcome
resolve_target source target = unless (source_refusal source) (unless (internal_refusal source target) (Text (resolve_path source target) []))
