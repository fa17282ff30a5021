-- What request 3 of document 02 says of the call that tells how a media type was arrived at, over every package. `proofs/OriginDemands.antt` proves it.
-- Assumes nothing.
use Rattle.std.specs.Prelude.{ℕ, ◌≤◌, ◌<◌, ◌≡◌, true, false, [], ◌∷◌, ◌++◌, eqb, length, get_or, drop}
use Rattle.chars.specs.Folding.{equivalent}
use Rattle.names.specs.Names.{extension_at}
use Rattle.output.specs.Answers.{Answer, answer, Text, filled}
use Rattle.model.specs.Sets.{Bytes, Each, OneOf}
use Rattle.model.specs.Package.{Default, Override, State, extension_of}
use Rattle.model.specs.Calls.{TypeOrigin, Prints, MediaType, step}

module _ (room : ℕ) (S : State) (name : Bytes) where
  -- the answers of the two calls, each lent an output
  abbrev pub origin : Bytes → Answer
  origin output = (step room S (TypeOrigin name output)).0

  abbrev pub media_type : Bytes → Answer
  media_type out = (step room S (Prints (MediaType name) out)).0

  -- an accepted answer of 2, of 1 and of 0. "the entry named is held, it is the one that the rule of document 01 uses": its type is what the
  -- media type call answers
  pub record OverrideUsed (output : Bytes) (o : Override) : Type 0 where
    pub answered : origin output ≡ answer 0 (2 ∷ length o.name ∷ []) (o.name ++ drop (length o.name) output)
    pub held : OneOf o S.overrides
    pub own : equivalent o.name name ≡ true
    pub used : (out : Bytes) → media_type out ≡ filled 1 out (Text o.type [])

  -- "for a Default no Override is equivalent"
  pub record DefaultUsed (output : Bytes) (d : Default) : Type 0 where
    pub answered : origin output ≡ answer 0 (1 ∷ length d.extension ∷ []) (d.extension ++ drop (length d.extension) output)
    pub held : OneOf d S.defaults
    -- the name has an extension, and it is this one
    pub dotted : eqb (extension_at name) 0 ≡ false
    pub own : equivalent d.extension (extension_of name) ≡ true
    pub used : (out : Bytes) → media_type out ≡ filled 1 out (Text d.type [])
    pub unopposed : Each (λ (o : Override). equivalent o.name name ≡ false) S.overrides

  pub record NeitherUsed (output : Bytes) : Type 0 where
    pub answered : origin output ≡ answer 0 (0 ∷ 0 ∷ []) output
    pub untyped : (out : Bytes) → media_type out ≡ answer 14 (0 ∷ []) out

  pub data Argued (output : Bytes) : Type 0 where
    by_override : (o : Override) → OverrideUsed output o → Argued output
    by_default : (d : Default) → DefaultUsed output d → Argued output
    neither : NeitherUsed output → Argued output

  -- "3 going by the key": an output of the length told takes it
  pub record KeyTooLong (output : Bytes) : Type 0 where
    pub needed : ℕ
    pub answered : origin output ≡ answer 3 (needed ∷ 0 ∷ []) output
    pub less : length output < needed
    pub enough : (more : Bytes) → needed ≤ length more → ((origin more).number ≡ 0) × (get_or (origin more).values 1 0 ≡ needed)

  -- THE STATEMENT
  pub record OriginTold (output : Bytes) : Type 0 where
    pub argued : (origin output).number ≡ 0 → Argued output
    -- "and neither comes exactly where the media type call answers 14": there it comes, and by `NeitherUsed` nowhere else
    pub fourteen : (out : Bytes) → (media_type out).number ≡ 14 → origin output ≡ answer 0 (0 ∷ 0 ∷ []) output
    pub short : (origin output).number ≡ 3 → KeyTooLong output
    -- "Its other refusals are that call's"
    pub others : (out : Bytes) (k : ℕ) → (k ≡ 0 → ⊥) → (k ≡ 3 → ⊥) → (k ≡ 14 → ⊥) →
        ((media_type out).number ≡ k → origin output ≡ answer k (0 ∷ 0 ∷ []) output)
        × ((origin output).number ≡ k → media_type out ≡ answer k (0 ∷ []) out)
    pub never14 : (origin output).number ≡ 14 → ⊥
    -- "The package keeps its bytes."
    pub kept : (step room S (TypeOrigin name output)).1 ≡ S

abbrev pub OriginsAreTold : Type 0
OriginsAreTold = (room : ℕ) (S : State) (name output : Bytes) → OriginTold room S name output
