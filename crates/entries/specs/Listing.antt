-- The entries that a package holds, set by set and field by field, and the answer to who asks for one of them. This is no call of document 01 or
-- 02: a viewer lists by it what document 01's calls let it find one by one. It says nothing that the ledger does not hold.
-- Assumes nothing.
use Rattle.std.specs.Prelude.{ℕ, List, [], ◌∷◌, map, leb, length, get_or}
use Rattle.output.specs.Answers.{Text, unless, Answer, filled}
use Rattle.model.specs.Sets.{Bytes}
use Rattle.model.specs.Fields.{when, first}
use Rattle.model.specs.Package.{Item, Default, Override, Relationship, State}

-- THE FIELDS of an entry as texts, in document 01's order: "items (item name, bytes), Defaults (extension, type), Overrides (part name, type)"
abbrev pub item_texts : Item → List Bytes
item_texts i = i.name ∷ i.bytes ∷ []

abbrev pub default_texts : Default → List Bytes
default_texts d = d.extension ∷ d.type ∷ []

abbrev pub override_texts : Override → List Bytes
override_texts o = o.name ∷ o.type ∷ []

-- "a source .., an id .., a type .., a mode .. and a target": a mode is one byte, 0 or 1
abbrev pub relationship_texts : Relationship → List Bytes
relationship_texts r = r.source ∷ r.id ∷ r.type ∷ (r.mode ∷ []) ∷ r.target ∷ []

-- THE ENTRIES of a set: 0 items, 1 Defaults, 2 Overrides, 3 relationships. The ledger has each set in the order of its keys; other numbers name
-- no set
unfoldable pub listed : ℕ → State → List (List Bytes)
listed set S =
    get_or
    (map item_texts S.items
    ∷ map default_texts S.defaults
    ∷ map override_texts S.overrides
    ∷ map relationship_texts S.relationships
    ∷ [])
    set []

-- how many fields the entries of a set have
abbrev pub field_count : ℕ → ℕ
field_count set = get_or (2 ∷ 2 ∷ 2 ∷ 5 ∷ []) set 0

-- a field of the entry at a position
abbrev pub shown : State → ℕ → ℕ → ℕ → Bytes
shown S set position field = get_or (get_or (listed set S) position []) field []

-- THE ANSWER: 8 for a set or a field that is not there, 13 for no such position; else the field's length and how many entries the set has, and
-- 3 where the output is too short
abbrev pub entry_refusal : State → ℕ → ℕ → ℕ → ℕ
entry_refusal S set position field = first (when (leb (field_count set) field) 8 ∷ when (leb (length (listed set S)) position) 13 ∷ [])

unfoldable pub entry_at : State → ℕ → ℕ → ℕ → Bytes → Answer
entry_at S set position field output =
    filled 2 output (unless (entry_refusal S set position field) (Text (shown S set position field) (length (listed set S) ∷ [])))
