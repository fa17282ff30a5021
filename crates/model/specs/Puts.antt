-- The single puts and drops of the ledger: what refuses one, and the package with an entry more or less.
-- Assumes nothing.
use Rattle.std.specs.Prelude.{ℕ, ◌+◌, Bool, not, ◌||◌, List, [], ◌∷◌, ◌++◌, leb, ltb, length}
use Rattle.model.specs.Sets.{Bytes, Key, held, any, lookup, insert, remove}
use Rattle.model.specs.Fields.{when, first, prefix_of, suffix_of, item_field, part_field, extension_field, source_field, id_field}
use Rattle.model.specs.Package.{Item, Default, Override, Relationship, State, charge, Kind, item_kind, default_kind, override_kind, relationship_kind}
use Rattle.model.specs.Package.{item_key, name_key, relationship_key, key_of_item, group, disagrees, grows, item_at}

-- Refusals go by "the fields as listed, a name by 6, 4, 5; then 10, 12, 11, 13, 14, 15"

-- "15 a set is full or the charge would pass C"; "Freed charge is usable again": what is held now is summed
abbrev pub no_room : ℕ → ℕ → ℕ → State → Bool
no_room limit count added S = leb limit count || ltb S.capacity (charge S + added)

module _ {E : Type 0} (kind : Kind E) where
  -- a put of the entry e: by its fields, by "10 taken", by the call's own tests, by 15
  abbrev pub put_refusal : State → E → List ℕ → ℕ
  put_refusal S e own =
      first
      (kind.fields e
      ∷ when (held (lookup kind.key (kind.key e) (kind.entries S))) 10
      ∷ (own ++ when (no_room kind.limit (length (kind.entries S)) (kind.charge e) S) 15 ∷ []))

  -- a drop of the entry that has the key k: by the fields that make the key, by "13 not held"
  abbrev pub drop_refusal : State → List ℕ → Key → ℕ
  drop_refusal S fields k = first (fields ++ when (not (held (lookup kind.key k (kind.entries S)))) 13 ∷ [])

  -- the package with the entry, and without the one that has the key
  abbrev pub put_in : State → E → State
  put_in S e = kind.renewed S (insert kind.key e (kind.entries S))

  abbrev pub taken_out : State → Key → State
  taken_out S k = kind.renewed S (remove kind.key k (kind.entries S))

-- the package with other entries in one of its sets
abbrev pub with_items : State → List Item → State
with_items = item_kind.renewed

abbrev pub with_defaults : State → List Default → State
with_defaults = default_kind.renewed

abbrev pub with_overrides : State → List Override → State
with_overrides = override_kind.renewed

abbrev pub with_relationships : State → List Relationship → State
with_relationships = relationship_kind.renewed

-- an item's own tests: 12 and 11 of a new name beside the held items
abbrev pub misfits : Bytes → List Item → List ℕ
misfits name is =
    when (any (λ (i : Item). disagrees (suffix_of name) (suffix_of i.name)) (group (prefix_of name) is)) 12
    ∷ when (any (λ (i : Item). grows (prefix_of name) (prefix_of i.name)) is) 11
    ∷ []

-- "10 taken: both whole, or same k in the group (last mark or not)": one key; 12; 11
unfoldable pub clash : Bytes → List Item → ℕ
clash name is = first (when (held (lookup key_of_item (item_key name) is)) 10 ∷ misfits name is)

unfoldable pub put_item_refusal : State → Bytes → Bytes → ℕ
put_item_refusal S name bytes = put_refusal item_kind S (record { name = name; bytes = bytes }) (misfits name S.items)

-- an item that is asked for has the name's last mark too
unfoldable pub drop_item_refusal : State → Bytes → ℕ
drop_item_refusal S name =
    first
    (item_field name
    ∷ when (not (held (item_at name S.items))) 13
    ∷ [])

unfoldable pub put_default_refusal : State → Bytes → Bytes → ℕ
put_default_refusal S extension type = put_refusal default_kind S (record { extension = extension; type = type }) []

unfoldable pub drop_default_refusal : State → Bytes → ℕ
drop_default_refusal S extension = drop_refusal default_kind S (extension_field extension ∷ []) (name_key extension)

unfoldable pub put_override_refusal : State → Bytes → Bytes → ℕ
put_override_refusal S name type = put_refusal override_kind S (record { name = name; type = type }) []

unfoldable pub drop_override_refusal : State → Bytes → ℕ
drop_override_refusal S name = drop_refusal override_kind S (part_field name ∷ []) (name_key name)

unfoldable pub put_relationship_refusal : State → Bytes → Bytes → Bytes → ℕ → Bytes → ℕ
put_relationship_refusal S source id type mode target =
    put_refusal relationship_kind S (record { source = source; id = id; type = type; mode = mode; target = target }) []

unfoldable pub drop_relationship_refusal : State → Bytes → Bytes → ℕ
drop_relationship_refusal S source id = drop_refusal relationship_kind S (source_field source ∷ id_field id ∷ []) (relationship_key source id)
