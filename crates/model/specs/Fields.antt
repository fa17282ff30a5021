-- The fields of the calls, judged: a judgement is the number of a refusal, 0 for none.
-- Assumes nothing.
use Rattle.std.specs.Prelude.{ℕ, Bool, true, false, not, cond, List, [], ◌∷◌, leb, eqb, take}
use Rattle.names.specs.Names.{part_name, reserved}
use Rattle.names.specs.Items.{item_name, item_refusal}
use Rattle.names.specs.Types.{media_type, extension, identifier}
use Rattle.names.specs.Iris.{package_iri}
use Rattle.names.specs.declared.items.Suffix.{Suffix}
use Rattle.names.specs.declared.items.Suffix.TheVariants.{Whole, Piece}
use Rattle.names.specs.declared.items.ItemName.{ItemName}
use Rattle.names.specs.declared.items.ItemName.TheVariants.{Named, Refused}
use Rattle.targets.specs.Targets.{source_refusal, target_refusal}
use Rattle.model.specs.Sets.{Bytes}

-- the refusal n where the test holds
abbrev pub when : Bool → ℕ → ℕ
when b n = cond b n 0

-- "Order: ..": the first of these refusals that is met
unfoldable pub first : List ℕ → ℕ
first [] = 0
first (n ∷ ns) = cond (eqb n 0) (first ns) n

-- ITEM NAMES. "A name is taken apart into prefix, piece number and last mark, or refused." "A whole item's prefix is its whole name."
-- (A refused name has no prefix and no suffix; what stands for them here is never used.)
abbrev pub prefix_in : ItemName → Bytes → Bytes
prefix_in (Named n x) s = take n s
prefix_in (Refused k) s = s

abbrev pub suffix_in : ItemName → Suffix
suffix_in (Named n x) = x
suffix_in (Refused k) = Whole

unfoldable pub prefix_of : Bytes → Bytes
prefix_of s = prefix_in (item_name s) s

unfoldable pub suffix_of : Bytes → Suffix
suffix_of s = suffix_in (item_name s)

-- "both whole"
abbrev pub whole : Suffix → Bool
whole Whole = true
whole (Piece k l) = false

-- the "last mark"
abbrev pub last : Suffix → Bool
last Whole = false
last (Piece k l) = l

-- FIELDS. An item name that is asked for, "by 6, 4"; on put and drop also by 5: "5 reserved, on put and drop item, source, or resolved
-- target". Reserved is the prefix: the name of the part that the item belongs to
abbrev pub asked_field : Bytes → ℕ
asked_field s = item_refusal (item_name s)

unfoldable pub item_field : Bytes → ℕ
item_field s = first (asked_field s ∷ when (reserved (prefix_of s)) 5 ∷ [])

-- "4 not a part name"
abbrev pub part_field : Bytes → ℕ
part_field s = when (not (part_name s)) 4

-- "7 media type or extension"
abbrev pub type_field : Bytes → ℕ
type_field s = when (not (media_type s)) 7

abbrev pub extension_field : Bytes → ℕ
extension_field s = when (not (extension s)) 7

-- "a source (`/` for the package, else an unreserved part name)": 4, then 5
abbrev pub source_field : Bytes → ℕ
source_field s = source_refusal s

-- "8 id, relationship type or mode": "a type (an IRI with a scheme)", which is also the form of a package IRI; "a mode (0 internal, 1 external)"
abbrev pub id_field : Bytes → ℕ
id_field s = when (not (identifier s)) 8

abbrev pub relationship_type_field : Bytes → ℕ
relationship_type_field s = when (not (package_iri s)) 8

abbrev pub mode_field : ℕ → ℕ
mode_field m = when (not (leb m 1)) 8

-- "An external target is an IRI. An internal one is an IRI without scheme, query, fragment or leading `//`; resolved against the source
-- as base path it must be a part name, not reserved": 9, then 5
abbrev pub target_field : ℕ → Bytes → Bytes → ℕ
target_field mode source target = target_refusal mode source target

-- "A package IRI is an IRI with a scheme": 9
abbrev pub package_field : Bytes → ℕ
package_field s = when (not (package_iri s)) 9

-- ENTRIES. "the fields as listed": those of a Default (extension, type), of an Override (part name, type), of a relationship
unfoldable pub default_fields : Bytes → Bytes → ℕ
default_fields extension type = first (extension_field extension ∷ type_field type ∷ [])

unfoldable pub override_fields : Bytes → Bytes → ℕ
override_fields name type = first (part_field name ∷ type_field type ∷ [])

-- "A relationship has a source .., an id .., a type .., a mode .. and a target."
unfoldable pub relationship_fields : Bytes → Bytes → Bytes → ℕ → Bytes → ℕ
relationship_fields source id type mode target =
    first (source_field source ∷ id_field id ∷ relationship_type_field type ∷ mode_field mode ∷ target_field mode source target ∷ [])
