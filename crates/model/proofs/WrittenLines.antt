-- Each line that is written for an entry is read as that entry (request 5 of document 02).
-- Assumes nothing.
use Prim.Native.Nat.{ℕ, suc, ◌≤◌}
use Prim.Native.String.{String}
use mathlib.Core.Path.{◌≡◌, refl, sym, ap, ◌∙◌}
use mathlib.Core.Bool.{Bool, true, false}
use mathlib.Core.List.{List, [], ◌∷◌, ◌++◌, map, append_assoc}
use mathlib.Core.Option.{some}
use native.Mathlib.Omega.{arith}
use lib.Dec.{eqb}
use lib.ListN.{get_or}
use borrow.Author.Tests.{eqb-true, eqb-false}
use Rattle.chars.specs.Bytes.{ascii, letter, digit, member}
use Rattle.chars.specs.Lists.{every, first_passing, lacks, same, tiled}
use Rattle.chars.specs.declared.search.Alphabet.TheVariants.{Id}
use Rattle.markup.specs.Marks.{name_first, value_unit, value_byte, unquoted}
use Rattle.markup.specs.Tags.{attribute_named, distinct, own}
use Rattle.markup.specs.Entries.{Entry, SaysDefault, SaysOverride, SaysRelationship, types_entry, relationship_entry, entry_of}
use Rattle.markup.specs.Streams.{with_entry, entries_in}
use Rattle.markup.specs.declared.entries.Kind.TheVariants.{Types, Relationships}
use Rattle.markup.proofs.WrittenTags.{Plain, Raw, raw, meant, Fine, AllFine, written_all}
use Rattle.markup.proofs.WrittenStreams.{entry_written}
use Rattle.model.specs.Sets.{Bytes}
use Rattle.model.specs.Package.{Default, Override, Relationship}
use Rattle.model.specs.Texts.{line, quoted, attribute, default_line, override_line, mode_text, relationship_line}
use Rattle.model.proofs.WrittenValues.{Writable, quoted_quotable, unquoted_quoted, quoted_unmarked}

-- an attribute as it is written
abbrev given : String → Bytes → Raw
given name value = raw (ascii name) (quoted value)

fine_value : (name : String) (value : Bytes) → Plain (ascii name) → Writable value → Fine (given name value)
fine_value name value p w = record { name = p; unmarked = quoted_unmarked value w.unmarked; quotable = quoted_quotable value w.unopened }

-- DEFAULTS
abbrev default_given : Default → List Raw
default_given d = given "Extension" d.extension ∷ given "ContentType" d.type ∷ []

default_text : (d : Default) (rest : Bytes) → default_line d ++ rest ≡ 60 ∷ (ascii "Default" ++ written_all (default_given d) (47 ∷ 62 ∷ 10 ∷ rest))
unfolding written_all
default_text d rest = simp append_assoc

abbrev pub says_default : Default → Entry
says_default d = SaysDefault d.extension d.type

default_entry : (d : Default) → Writable d.extension → Writable d.type →
    entry_of Types (record { name = ascii "Default"; attributes = map meant (default_given d); empty = true }) ≡ some (says_default d)
unfolding types_entry same attribute_named own lacks first_passing
default_entry d w v = rw (unquoted_quoted d.extension w.unopened, unquoted_quoted d.type v.unopened)

-- the names of elements and attributes
plain : (name : String) → name_first (get_or (ascii name) 0 0) ≡ true → every (member Id) (ascii name) ≡ true → Plain (ascii name)
plain name e f = record { begins = e; bytes = f }

pub default_read : (d : Default) → Writable d.extension → Writable d.type → (k : ℕ) (rest : Bytes) →
    entries_in Types (suc k) (10 ∷ (default_line d ++ rest)) ≡ with_entry (says_default d) (entries_in Types k (10 ∷ rest))
unfolding every member letter digit distinct attribute_named same
default_read d w v k rest =
    ap (λ (s : Bytes). entries_in Types (suc k) (10 ∷ s)) (default_text d rest)
    ∙ entry_written Types (ascii "Default") (plain "Default" refl refl) (given "Extension" d.extension) (given "ContentType" d.type ∷ [])
    (fine_value "Extension" d.extension (plain "Extension" refl refl) w, (fine_value "ContentType" d.type (plain "ContentType" refl refl) v, tt))
    refl (says_default d) (default_entry d w v) k (10 ∷ rest)

-- OVERRIDES
abbrev override_given : Override → List Raw
override_given o = given "PartName" o.name ∷ given "ContentType" o.type ∷ []

override_text : (o : Override) (rest : Bytes) → override_line o ++ rest ≡ 60 ∷ (ascii "Override" ++ written_all (override_given o) (47 ∷ 62 ∷ 10 ∷ rest))
unfolding written_all
override_text o rest = simp append_assoc

abbrev pub says_override : Override → Entry
says_override o = SaysOverride o.name o.type

override_entry : (o : Override) → Writable o.name → Writable o.type →
    entry_of Types (record { name = ascii "Override"; attributes = map meant (override_given o); empty = true }) ≡ some (says_override o)
unfolding types_entry same attribute_named own lacks first_passing
override_entry o w v = rw (unquoted_quoted o.name w.unopened, unquoted_quoted o.type v.unopened)

pub override_read : (o : Override) → Writable o.name → Writable o.type → (k : ℕ) (rest : Bytes) →
    entries_in Types (suc k) (10 ∷ (override_line o ++ rest)) ≡ with_entry (says_override o) (entries_in Types k (10 ∷ rest))
unfolding every member letter digit distinct attribute_named same
override_read o w v k rest =
    ap (λ (s : Bytes). entries_in Types (suc k) (10 ∷ s)) (override_text o rest)
    ∙ entry_written Types (ascii "Override") (plain "Override" refl refl) (given "PartName" o.name) (given "ContentType" o.type ∷ [])
    (fine_value "PartName" o.name (plain "PartName" refl refl) w, (fine_value "ContentType" o.type (plain "ContentType" refl refl) v, tt))
    refl (says_override o) (override_entry o w v) k (10 ∷ rest)

-- RELATIONSHIPS: with TargetMode in mode 1 alone
abbrev mode_given : Bool → List Raw
mode_given true = raw (ascii "TargetMode") (ascii "External") ∷ []
mode_given false = []

abbrev relationship_given : Bool → Relationship → List Raw
relationship_given b r = given "Id" r.id ∷ given "Type" r.type ∷ given "Target" r.target ∷ mode_given b

relationship_line_lem : (r : Relationship) (mode rest : Bytes) →
    line (ascii "<Relationship" ++ (attribute "Id" r.id ++ (attribute "Type" r.type ++ (attribute "Target" r.target ++ (mode ++ ascii "/>"))))) ++ rest
    ≡ 60 ∷ (ascii "Relationship" ++ written_all (relationship_given false r) (mode ++ (47 ∷ 62 ∷ 10 ∷ rest)))
unfolding written_all
relationship_line_lem r mode rest = simp append_assoc

relationship_text_lem : (r : Relationship) (b : Bool) → eqb r.mode 1 ≡ b → (rest : Bytes) →
    relationship_line r ++ rest ≡ 60 ∷ (ascii "Relationship" ++ written_all (relationship_given b r) (47 ∷ 62 ∷ 10 ∷ rest))
unfolding written_all
relationship_text_lem r true e rest = relationship_line_lem r (mode_text r.mode) rest ∙ rw e
relationship_text_lem r false e rest = relationship_line_lem r (mode_text r.mode) rest ∙ rw e

abbrev pub says_relationship : Relationship → Entry
says_relationship r = SaysRelationship r.id r.type r.mode r.target

-- what is written of a relationship can be: no field holds what it may not, and the mode is 0 or 1
pub record Writing (r : Relationship) : Type 0 where
  pub id : Writable r.id
  pub type : Writable r.type
  pub target : Writable r.target
  pub mode : r.mode ≤ 1

relationship_entry_lem : (r : Relationship) → Writing r → (b : Bool) → eqb r.mode 1 ≡ b →
    entry_of Relationships (record { name = ascii "Relationship"; attributes = map meant (relationship_given b r); empty = true }) ≡ some (says_relationship r)
unfolding relationship_entry same attribute_named own lacks first_passing unquoted value_unit value_byte
relationship_entry_lem r w true e =
    rw (unquoted_quoted r.id w.id.unopened, unquoted_quoted r.type w.type.unopened, unquoted_quoted r.target w.target.unopened)
    (ap (λ (m : ℕ). some (SaysRelationship r.id r.type m r.target)) (sym (eqb-true r.mode 1 e)))
relationship_entry_lem r w false e =
    let n : r.mode ≡ 1 → ⊥ = eqb-false r.mode 1 e in
    let z : 0 ≡ r.mode = omega (arith, w.mode) in
    rw (unquoted_quoted r.id w.id.unopened, unquoted_quoted r.type w.type.unopened, unquoted_quoted r.target w.target.unopened)
    (ap (λ (m : ℕ). some (SaysRelationship r.id r.type m r.target)) z)

relationship_fine : (r : Relationship) → Writing r → (b : Bool) → AllFine (relationship_given b r)
unfolding every member letter digit tiled value_unit
relationship_fine r w true = (
  fine_value "Id" r.id (plain "Id" refl refl) w.id,
  (
    fine_value "Type" r.type (plain "Type" refl refl) w.type,
    (
      fine_value "Target" r.target (plain "Target" refl refl) w.target,
      (record { name = plain "TargetMode" refl refl; unmarked = refl; quotable = refl }, tt),
    ),
  ),
)
relationship_fine r w false = (
  fine_value "Id" r.id (plain "Id" refl refl) w.id,
  (fine_value "Type" r.type (plain "Type" refl refl) w.type, (fine_value "Target" r.target (plain "Target" refl refl) w.target, tt)),
)

relationship_apart : (r : Relationship) (b : Bool) → distinct (map meant (relationship_given b r)) ≡ true
unfolding distinct attribute_named same
relationship_apart r true = refl
relationship_apart r false = refl

pub relationship_read : (r : Relationship) → Writing r → (k : ℕ) (rest : Bytes) →
    entries_in Relationships (suc k) (10 ∷ (relationship_line r ++ rest)) ≡ with_entry (says_relationship r) (entries_in Relationships k (10 ∷ rest))
unfolding every member letter digit
relationship_read r w k rest =
    let b : Bool = eqb r.mode 1 in
    ap (λ (s : Bytes). entries_in Relationships (suc k) (10 ∷ s)) (relationship_text_lem r b refl rest)
    ∙ entry_written Relationships (ascii "Relationship") (plain "Relationship" refl refl) (given "Id" r.id)
    (given "Type" r.type ∷ given "Target" r.target ∷ mode_given b) (relationship_fine r w b) (relationship_apart r b)
    (says_relationship r) (relationship_entry_lem r w b refl) k (10 ∷ rest)
