-- Request 5 of document 02: the entries of a stream, put in one after the other, all or none.
-- Assumes nothing.
use Rattle.std.specs.Prelude.{ℕ, List, [], ◌∷◌}
use Rattle.markup.specs.Entries.{Entry, SaysDefault, SaysOverride, SaysRelationship}
use Rattle.markup.specs.Streams.{said, entries_of, form_of}
use Rattle.markup.specs.declared.entries.Kind.TheVariants.{Types, Relationships}
use Rattle.model.specs.Sets.{Bytes}
use Rattle.model.specs.Fields.{first, source_field}
use Rattle.model.specs.Package.{State, Default, Override, Relationship, default_kind, override_kind, relationship_kind}
use Rattle.model.specs.Puts.{put_in, put_default_refusal, put_override_refusal, put_relationship_refusal}

-- WHAT IS PUT IN: an entry of one of three sets
pub data Entered : Type 0 where
  ADefault : Default → Entered
  AnOverride : Override → Entered
  ARelationship : Relationship → Entered

-- "Reading takes a lent stream and, for relationships, the source": what a types stream says is put in as it stands (it says no relationships),
unfoldable pub types_said : List Entry → List Entered
types_said [] = []
types_said (SaysDefault extension type ∷ es) = ADefault (record { extension = extension; type = type }) ∷ types_said es
types_said (SaysOverride name type ∷ es) = AnOverride (record { name = name; type = type }) ∷ types_said es
types_said (SaysRelationship id type mode target ∷ es) = types_said es

-- and relationships as those of the source (their stream says nothing else)
unfoldable pub relationships_said : Bytes → List Entry → List Entered
relationships_said source [] = []
relationships_said source (SaysDefault extension type ∷ es) = relationships_said source es
relationships_said source (SaysOverride name type ∷ es) = relationships_said source es
relationships_said source (SaysRelationship id type mode target ∷ es) =
    ARelationship (record { source = source; id = id; type = type; mode = mode; target = target }) ∷ relationships_said source es

-- the entries of a stream
abbrev pub types_in : Bytes → List Entered
types_in stream = types_said (entries_of (said Types stream))

abbrev pub relationships_in : Bytes → Bytes → List Entered
relationships_in source stream = relationships_said source (entries_of (said Relationships stream))

-- PUTTING THEM IN. Each as its put does
abbrev pub entry_refusal : State → Entered → ℕ
entry_refusal S (ADefault d) = put_default_refusal S d.extension d.type
entry_refusal S (AnOverride o) = put_override_refusal S o.name o.type
entry_refusal S (ARelationship r) = put_relationship_refusal S r.source r.id r.type r.mode r.target

abbrev pub entry_made : State → Entered → State
entry_made S (ADefault d) = put_in default_kind S d
entry_made S (AnOverride o) = put_in override_kind S o
entry_made S (ARelationship r) = put_in relationship_kind S r

-- "an entry's other refusals follow in stream order": each beside the entries before it
unfoldable pub entries_refusal : State → List Entered → ℕ
entries_refusal S [] = 0
entries_refusal S (e ∷ es) = first (entry_refusal S e ∷ entries_refusal (entry_made S e) es ∷ [])

-- "it adds all entries"
unfoldable pub entries_made : State → List Entered → State
entries_made S [] = S
entries_made S (e ∷ es) = entries_made (entry_made S e) es

-- THE CALLS. "20 where .., else 19 where it isn't accepted, both after 1 and the source's own refusals"; then the entries'. (1 is met on no package.)
unfoldable pub read_types_refusal : State → Bytes → ℕ
read_types_refusal S stream = first (form_of (said Types stream) ∷ entries_refusal S (types_in stream) ∷ [])

unfoldable pub read_relationships_refusal : State → Bytes → Bytes → ℕ
read_relationships_refusal S source stream =
    first (source_field source ∷ form_of (said Relationships stream) ∷ entries_refusal S (relationships_in source stream) ∷ [])

abbrev pub read_types_made : State → Bytes → State
read_types_made S stream = entries_made S (types_in stream)

abbrev pub read_relationships_made : State → Bytes → Bytes → State
read_relationships_made S source stream = entries_made S (relationships_in source stream)
