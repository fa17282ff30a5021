-- What request 5 of document 02 says of reading a stream, over every package. `proofs/ReadingDemands.antt`, `TypesReadBack` and
-- `RelationshipsReadBack` prove it.
-- Assumes nothing.
use Rattle.std.specs.Prelude.{ℕ, ◌+◌, ◌≤◌, ◌≡◌, true, not, List, [], ◌∷◌, ◌++◌, map, length}
use Rattle.chars.specs.Folding.{equivalent}
use Rattle.markup.specs.Streams.{said, entries_of, form_of}
use Rattle.markup.specs.declared.entries.Kind.TheVariants.{Types, Relationships}
use Rattle.output.specs.Answers.{Answer}
use Rattle.model.specs.Sets.{Bytes, filter, sum_of}
use Rattle.model.specs.Fields.{first, source_field}
use Rattle.model.specs.Package.{State, Relationship, relationship_limit, default_charge, override_charge, relationship_charge, charge}
use Rattle.model.specs.Texts.{types_text, of_source, relationships_text}
use Rattle.model.specs.Puts.{with_defaults, with_overrides}
use Rattle.model.specs.Reading.{Entered, ADefault, AnOverride, ARelationship, types_in, relationships_in}
use Rattle.model.specs.Calls.{Call, Changes, PutDefault, PutOverride, PutRelationship, ReadTypes, ReadRelationships, done, refused, step, answers, after}
use Rattle.model.specs.Good.{Good}

-- ALL ENTRIES OR NONE. An entry's own put
abbrev pub put_of : Entered → Call
put_of (ADefault d) = Changes (PutDefault d.extension d.type)
put_of (AnOverride o) = Changes (PutOverride o.name o.type)
put_of (ARelationship r) = Changes (PutRelationship r.source r.id r.type r.mode r.target)

abbrev pub puts_of : List Entered → List Call
puts_of es = map put_of es

-- every put of these entries, made one after the other, is accepted
abbrev pub AllTaken : ℕ → State → List Entered → Type 0
AllTaken room S es = answers room S (puts_of es) ≡ map (λ (e : Entered). done) es

-- a stream is read into S, r being the answer and the package after it: es are its entries, and form the refusal of the stream itself, 0 for none
pub record ReadInto (room : ℕ) (S : State) (form : ℕ) (es : List Entered) (r : Answer × State) : Type 0 where
  -- "it adds all entries": as their puts do. That is so where they are all accepted,
  pub all_entries : form ≡ 0 → AllTaken room S es → r ≡ (done, after room S (puts_of es))
  -- and nowhere else
  pub taken : r.0.number ≡ 0 → (form ≡ 0) × AllTaken room S es
  -- "or none"
  pub no_entries : (r.0.number ≡ 0 → ⊥) → r.1 ≡ S
  pub form_refused : (form ≡ 0 → ⊥) → r ≡ (refused form, S)
  -- "an entry's other refusals follow in stream order": the number is that of the first put that is refused
  pub first_refusal : form ≡ 0 → (before : List Entered) (e : Entered) (behind : List Entered) (n : ℕ) → es ≡ before ++ (e ∷ behind) →
      AllTaken room S before → (step room (after room S (puts_of before)) (put_of e)).0 ≡ refused n → (n ≡ 0 → ⊥) → r ≡ (refused n, S)

abbrev pub TypesAreRead : Type 0
TypesAreRead =
    (room : ℕ) (S : State) (stream : Bytes) →
    ReadInto room S (form_of (said Types stream)) (types_in stream) (step room S (Changes (ReadTypes stream)))

-- "both after .. the source's own refusals"
abbrev pub RelationshipsAreRead : Type 0
RelationshipsAreRead =
    (room : ℕ) (S : State) (source stream : Bytes) →
    ReadInto room S (first (source_field source ∷ form_of (said Relationships stream) ∷ [])) (relationships_in source stream)
    (step room S (Changes (ReadRelationships source stream)))

-- and none of what the stream says is left out
abbrev pub NoneIsLeftOut : Type 0
NoneIsLeftOut =
    (source stream : Bytes) →
    (length (types_in stream) ≡ length (entries_of (said Types stream)))
    × (length (relationships_in source stream) ≡ length (entries_of (said Relationships stream)))

-- READ BACK, "into a package without such entries whose capacity and sets take them" (a good package has 64 Defaults and 64 Overrides at most)
pub record TakesTypes (S T : State) : Type 0 where
  pub no_defaults : T.defaults ≡ []
  pub no_overrides : T.overrides ≡ []
  pub capacity : charge T + (sum_of default_charge S.defaults + sum_of override_charge S.overrides) ≤ T.capacity

-- "What our writer wrote is read back .. as the same entries"
abbrev pub TypesReadBack : Type 0
TypesReadBack =
    (room : ℕ) (S T : State) → Good S → TakesTypes S T →
    step room T (Changes (ReadTypes (types_text S))) ≡ (done, with_overrides (with_defaults T S.defaults) S.overrides)

-- "but for that source's spelling"
abbrev pub respelled : Bytes → Relationship → Relationship
respelled source r = record { source = source; id = r.id; type = r.type; mode = r.mode; target = r.target }

-- the relationships that were written of a source, in another spelling of it
abbrev pub written_of : Bytes → Bytes → State → List Relationship
written_of source again S = map (respelled again) (of_source source S.relationships)

-- those of the other sources
abbrev pub of_others : Bytes → List Relationship → List Relationship
of_others s rs = filter (λ (r : Relationship). not (equivalent r.source s)) rs

pub record TakesRelationships (source again : Bytes) (S T : State) : Type 0 where
  pub no_relationships : of_source again T.relationships ≡ []
  pub few : length T.relationships + length (written_of source again S) ≤ relationship_limit
  pub capacity : charge T + sum_of relationship_charge (written_of source again S) ≤ T.capacity

-- U is T with those relationships
pub record GotBack (source again : Bytes) (S T U : State) : Type 0 where
  pub capacity : U.capacity ≡ T.capacity
  pub items : U.items ≡ T.items
  pub defaults : U.defaults ≡ T.defaults
  pub overrides : U.overrides ≡ T.overrides
  pub own : of_source again U.relationships ≡ written_of source again S
  pub others : of_others again U.relationships ≡ T.relationships

-- "is read back with the same source": in whichever spelling
abbrev pub RelationshipsReadBack : Type 0
RelationshipsReadBack =
    (room : ℕ) (source again : Bytes) (S T : State) → Good S → Good T → source_field again ≡ 0 → equivalent source again ≡ true →
    TakesRelationships source again S T →
    ((step room T (Changes (ReadRelationships again (relationships_text source S)))).0 ≡ done)
    × GotBack source again S T (step room T (Changes (ReadRelationships again (relationships_text source S)))).1
