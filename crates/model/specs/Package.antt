-- The abstract package (document 01's ledger): the capacity and four sets, and what is read off them.
-- Assumes nothing.
use Rattle.std.specs.Prelude.{ℕ, suc, ◌+◌, Bool, true, false, not, ◌&&◌, ◌||◌, cond, ltb, eqb, length, drop}
use Rattle.std.specs.Bool.{beq}
use mathlib.Core.List.{List, [], ◌∷◌, map, flat_map}
use Rattle.std.proofs.Math.Option.{Option, none, some}
use Rattle.chars.specs.Folding.{fold, equivalent, derivable}
use Rattle.names.specs.Names.{extension_at}
use Rattle.names.specs.declared.items.Suffix.{Suffix}
use Rattle.names.specs.declared.items.Suffix.TheVariants.{Whole, Piece}
use Rattle.model.specs.Sets.{Bytes, Key, any, filter, sum_of, lookup}
use Rattle.model.specs.Fields.{when, first, prefix_of, suffix_of, whole, last, item_field, part_field, default_fields, override_fields, relationship_fields}

-- STATE. "four sets: items (item name, bytes), Defaults (extension, type), Overrides (part name, type), relationships"
pub record Item : Type 0 where
  pub name : Bytes
  pub bytes : Bytes

pub record Default : Type 0 where
  pub extension : Bytes
  pub type : Bytes

pub record Override : Type 0 where
  pub name : Bytes
  pub type : Bytes

-- "A relationship has a source .., an id .., a type .., a mode .. and a target"
pub record Relationship : Type 0 where
  pub source : Bytes
  pub id : Bytes
  pub type : Bytes
  pub mode : ℕ
  pub target : Bytes

-- "State: the capacity C; four sets"
pub record State : Type 0 where
  pub capacity : ℕ
  pub items : List Item
  pub defaults : List Default
  pub overrides : List Override
  pub relationships : List Relationship

-- "start(C): all sets empty"
abbrev pub empty : ℕ → State
empty C = record { capacity = C; items = []; defaults = []; overrides = []; relationships = [] }

-- KEYS. Items by "same prefix folded, same k": a whole item stands before piece 0, piece 0 before piece 1
abbrev pub rank : Suffix → ℕ
rank Whole = 0
rank (Piece k l) = suc k

abbrev pub item_key : Bytes → Key
item_key s = (fold (prefix_of s), rank (suffix_of s) ∷ [])

-- Defaults "by folded extension", Overrides "by folded name"
abbrev pub name_key : Bytes → Key
name_key s = (fold s, [])

-- relationships "by folded source and id" (ids are "compared exactly")
abbrev pub relationship_key : Bytes → Bytes → Key
relationship_key source id = (fold source, id)

-- KINDS. What makes a set of the package: its entries, and the package with others in their place; the key of an entry; how many entries
-- there are at most; the judgement of an entry's fields; an entry's charge
pub record Kind (E : Type 0) : Type 0 where
  pub entries : State → List E
  pub renewed : State → List E → State
  pub key : E → Key
  pub limit : ℕ
  pub fields : E → ℕ
  pub charge : E → ℕ

-- "At most 256, 64, 64 and 256."; "The charge is the sum of the byte lengths of all fields of all entries, a mode counting none."
abbrev pub item_kind : Kind Item
item_kind = record {
  entries = λ S. S.items;
  renewed = λ S l. record {
    capacity = S.capacity;
    items = l;
    defaults = S.defaults;
    overrides = S.overrides;
    relationships = S.relationships;
  };
  key = λ i. item_key i.name;
  limit = 256;
  fields = λ i. item_field i.name;
  charge = λ i. length i.name + length i.bytes;
}

abbrev pub default_kind : Kind Default
default_kind = record {
  entries = λ S. S.defaults;
  renewed = λ S l. record {
    capacity = S.capacity;
    items = S.items;
    defaults = l;
    overrides = S.overrides;
    relationships = S.relationships;
  };
  key = λ d. name_key d.extension;
  limit = 64;
  fields = λ d. default_fields d.extension d.type;
  charge = λ d. length d.extension + length d.type;
}

abbrev pub override_kind : Kind Override
override_kind = record {
  entries = λ S. S.overrides;
  renewed = λ S l. record {
    capacity = S.capacity;
    items = S.items;
    defaults = S.defaults;
    overrides = l;
    relationships = S.relationships;
  };
  key = λ o. name_key o.name;
  limit = 64;
  fields = λ o. override_fields o.name o.type;
  charge = λ o. length o.name + length o.type;
}

abbrev pub relationship_kind : Kind Relationship
relationship_kind = record {
  entries = λ S. S.relationships;
  renewed = λ S l. record {
    capacity = S.capacity;
    items = S.items;
    defaults = S.defaults;
    overrides = S.overrides;
    relationships = l;
  };
  key = λ r. relationship_key r.source r.id;
  limit = 256;
  fields = λ r. relationship_fields r.source r.id r.type r.mode r.target;
  charge = λ r. length r.source + length r.id + length r.type + length r.target;
}

-- document 01's word for what the entries use of the capacity: the sum over all sets
unfoldable pub charge : State → ℕ
charge S =
    sum_of item_kind.charge S.items + sum_of default_kind.charge S.defaults + sum_of override_kind.charge S.overrides
    + sum_of relationship_kind.charge S.relationships

-- the names under which statements cite a kind's limit, key and charge
abbrev pub item_limit : ℕ
item_limit = item_kind.limit

abbrev pub default_limit : ℕ
default_limit = default_kind.limit

abbrev pub override_limit : ℕ
override_limit = override_kind.limit

abbrev pub relationship_limit : ℕ
relationship_limit = relationship_kind.limit

abbrev pub key_of_item : Item → Key
key_of_item = item_kind.key

abbrev pub key_of_default : Default → Key
key_of_default = default_kind.key

abbrev pub key_of_override : Override → Key
key_of_override = override_kind.key

abbrev pub key_of_relationship : Relationship → Key
key_of_relationship = relationship_kind.key

abbrev pub item_charge : Item → ℕ
item_charge = item_kind.charge

abbrev pub default_charge : Default → ℕ
default_charge = default_kind.charge

abbrev pub override_charge : Override → ℕ
override_charge = override_kind.charge

abbrev pub relationship_charge : Relationship → ℕ
relationship_charge = relationship_kind.charge

-- no item: what `get_or` gives past the last
abbrev pub no_item : Item
no_item = record { name = []; bytes = [] }

-- GROUPS AND PARTS. A group is document 01's word for the items of one part, finished or not: "Items with equivalent prefixes form a group."
-- The group of a prefix stands in the order of the keys, so its pieces by number
unfoldable pub group : Bytes → List Item → List Item
group p is = filter (λ (i : Item). equivalent (prefix_of i.name) p) is

-- the pieces k, k + 1, .., of which the last one and no other is marked as the last
unfoldable pub complete_from : ℕ → List Item → Bool
complete_from k [] = false
complete_from k (i ∷ []) = eqb (rank (suffix_of i.name)) (suc k) && last (suffix_of i.name)
complete_from k (i ∷ j ∷ is) = eqb (rank (suffix_of i.name)) (suc k) && not (last (suffix_of i.name)) && complete_from (suc k) (j ∷ is)

-- "A group is a part if it is one whole item, or pieces 0 to n with n the last."; "held .. a part while its items make it one"
unfoldable pub is_part : List Item → Bool
is_part g = eqb (length g) 1 && any (λ (i : Item). whole (suffix_of i.name)) g || complete_from 0 g

-- "13 not held, no part yet"
abbrev pub no_part : State → Bytes → ℕ
no_part S name = when (not (is_part (group name S.items))) 13

-- a part that is asked for: 4, then 13
abbrev pub part_refusal : State → Bytes → ℕ
part_refusal S name = first (part_field name ∷ no_part S name ∷ [])

-- "Its content is the pieces joined by number"
unfoldable pub content : List Item → Bytes
content g = flat_map (λ (i : Item). i.bytes) g

-- "its spelling is the whole item's or piece 0's": the prefix of the first item, so a piece's without its suffix
unfoldable pub spelling : List Item → Bytes
spelling [] = []
spelling (i ∷ is) = prefix_of i.name

-- the first item of each group, in folded order
unfoldable pub leaders : List Item → List Item
leaders [] = []
leaders (i ∷ is) = i ∷ filter (λ (j : Item). not (equivalent (prefix_of j.name) (prefix_of i.name))) (leaders is)

abbrev pub groups : List Item → List (List Item)
groups is = map (λ (i : Item). group (prefix_of i.name) is) (leaders is)

-- the groups that are a part, in folded order
unfoldable pub parts : List Item → List (List Item)
parts is = filter is_part (groups is)

-- "12 pieces disagree: whole beside piece, second last, a k above the last, a last below a held k": a new suffix beside a held one of its
-- group. (Where no two numbers are equal, which is 10, "second last" implies one of the other two.)
abbrev pub disagrees : Suffix → Suffix → Bool
disagrees Whole Whole = false
disagrees Whole (Piece j m) = true
disagrees (Piece k l) Whole = true
disagrees (Piece k l) (Piece j m) = l && m || m && ltb j k || l && ltb k j

-- "11 prefix derivable from, or deriving, a held one"
abbrev pub grows : Bytes → Bytes → Bool
grows p q = derivable p q || derivable q p

-- LOOKUPS. "Lookups go by equivalence": an item has the "same prefix folded, same k, same last mark"
abbrev pub same_last : Bool → Option Item → Option Item
same_last l none = none
same_last l (some i) = cond (beq l (last (suffix_of i.name))) (some i) none

unfoldable pub item_at : Bytes → List Item → Option Item
item_at s is = same_last (last (suffix_of s)) (lookup key_of_item (item_key s) is)

-- "A name's extension follows the last dot of its last segment": asked for only where there is a dot
abbrev pub extension_of : Bytes → Bytes
extension_of s = drop (extension_at s) s

-- "without a dot it has none"
abbrev pub default_for : Bytes → List Default → Option Default
default_for s ds = cond (eqb (extension_at s) 0) none (lookup key_of_default (name_key (extension_of s)) ds)

-- "media type of a part: its Override, else the Default of its extension"
abbrev pub type_of_default : Option Default → Option Bytes
type_of_default none = none
type_of_default (some d) = some d.type

abbrev pub type_of : Option Override → Option Default → Option Bytes
type_of (some o) d = some o.type
type_of none d = type_of_default d

unfoldable pub media_type_of : Bytes → State → Option Bytes
media_type_of s S = type_of (lookup key_of_override (name_key s) S.overrides) (default_for s S.defaults)
