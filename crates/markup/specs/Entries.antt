-- Entries (request 5 of document 02): what one Default, Override or Relationship of a stream says.
-- Assumes nothing.
use Rattle.std.specs.Prelude.{ℕ, ◌+◌, Bool, cond, List, eqb, length}
use Rattle.std.proofs.Math.Option.{Option, none, some}
use Rattle.chars.specs.Bytes.{ascii}
use Rattle.chars.specs.Lists.{same}
use Rattle.markup.specs.Tags.{Attribute, attribute_named, own, Tag}
use Rattle.markup.specs.declared.entries.Kind.{Kind}
use Rattle.markup.specs.declared.entries.Kind.TheVariants.{Types, Relationships}

pub data Entry : Type 0 where
  SaysDefault : (extension type : List ℕ) → Entry
  SaysOverride : (name type : List ℕ) → Entry
  SaysRelationship : (id type : List ℕ) (mode : ℕ) (target : List ℕ) → Entry

-- VALUES of a tag's attributes. A name without a prefix is that of an attribute without one
abbrev pub value_in : Option Attribute → Option (List ℕ)
value_in none = none
value_in (some a) = some a.value

abbrev pub value_of : List ℕ → Tag → Option (List ℕ)
value_of name t = value_in (attribute_named name t.attributes)

-- how many attributes of the tag count
abbrev pub own_count : Tag → ℕ
own_count t = length (own t.attributes)

-- "or a missing or unknown attribute": all of these and, none being repeated, no other. Two values, or three and perhaps one more, make an entry
abbrev pub of_two : (List ℕ → List ℕ → Entry) → ℕ → Option (List ℕ) → Option (List ℕ) → Option Entry
of_two f count none v = none
of_two f count (some u) none = none
of_two f count (some u) (some v) = cond (eqb count 2) (some (f u v)) none

abbrev pub of_three : (List ℕ → List ℕ → List ℕ → Entry) → Bool → Option (List ℕ) → Option (List ℕ) → Option (List ℕ) → Option Entry
of_three f counted none v w = none
of_three f counted (some u) none w = none
of_three f counted (some u) (some v) none = none
of_three f counted (some u) (some v) (some w) = cond counted (some (f u v w)) none

-- "TargetMode alone may be missing (internal); if neither Internal nor External it gives 8": 2 is no mode, and a put of it gives 8
abbrev pub mode_of : Option (List ℕ) → ℕ
mode_of none = 0
mode_of (some v) = cond (same v (ascii "Internal")) 0 (cond (same v (ascii "External")) 1 2)

abbrev pub given : Option (List ℕ) → ℕ
given none = 0
given (some v) = 1

-- `<Default Extension="" ContentType=""/>`, `<Override PartName="" ContentType=""/>`: "attributes, Defaults and Overrides in any order"
unfoldable pub types_entry : Tag → Option Entry
types_entry t =
    cond (same t.name (ascii "Default")) (of_two SaysDefault (own_count t) (value_of (ascii "Extension") t) (value_of (ascii "ContentType") t))
    (cond (same t.name (ascii "Override")) (of_two SaysOverride (own_count t) (value_of (ascii "PartName") t) (value_of (ascii "ContentType") t))
    none)

-- `<Relationship Id="" Type="" Target=""/>`, perhaps with TargetMode
unfoldable pub relationship_entry : Tag → Option Entry
relationship_entry t =
    cond (same t.name (ascii "Relationship"))
    (of_three (λ (id type target : List ℕ). SaysRelationship id type (mode_of (value_of (ascii "TargetMode") t)) target)
    (eqb (own_count t) (3 + given (value_of (ascii "TargetMode") t)))
    (value_of (ascii "Id") t) (value_of (ascii "Type") t) (value_of (ascii "Target") t))
    none

-- KINDS OF STREAMS: the entry that a tag makes, the root's name and its namespace
abbrev pub entry_of : Kind → Tag → Option Entry
entry_of Types t = types_entry t
entry_of Relationships t = relationship_entry t

abbrev pub root_name : Kind → List ℕ
root_name Types = ascii "Types"
root_name Relationships = ascii "Relationships"

abbrev pub namespace : Kind → List ℕ
namespace Types = ascii "http://schemas.openxmlformats.org/package/2006/content-types"
namespace Relationships = ascii "http://schemas.openxmlformats.org/package/2006/relationships"
