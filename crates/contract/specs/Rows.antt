-- How the entries of an abstract package lie as rows of the store: the layout, which is the builder's choice.
-- Assumes nothing.
use Rattle.std.specs.Prelude.{ℕ, suc, ◌+◌, ◌*◌, ◌/◌, cond, List, [], ◌∷◌, ◌++◌, map, ltb, eqb, length, drop}
use Rattle.chars.specs.Folding.{fold}
use Rattle.names.specs.declared.items.Suffix.{Suffix}
use Rattle.names.specs.declared.items.Suffix.TheVariants.{Whole, Piece}
use Rattle.model.specs.Sets.{Bytes, Key}
use Rattle.model.specs.Fields.{prefix_of, suffix_of}
use Rattle.model.specs.Package.{Item, Default, Override, Relationship, State, Kind, item_kind, default_kind, override_kind, relationship_kind}
use Rattle.store.specs.Rows.{Row, make_row}

-- TAGS. A row's tag tells its set; that of an item also its suffix: 0 for a whole item, twice k + 1 for piece k, and one more for the last
abbrev pub tag_of : Suffix → ℕ
tag_of Whole = 0
tag_of (Piece k l) = 2 * suc k + cond l 1 0

-- the tags of items are below this one
abbrev pub default_tag : ℕ
default_tag = 32768

abbrev pub override_tag : ℕ
override_tag = 32769

-- of an internal relationship; an external one has the next
abbrev pub relationship_tag : ℕ
relationship_tag = 32770

abbrev pub external_tag : ℕ
external_tag = 32771

-- ROWS. An item: its prefix, the rest of its name, its bytes
unfoldable pub item_row : Item → Row
item_row i = make_row (tag_of (suffix_of i.name)) (prefix_of i.name) (drop (length (prefix_of i.name)) i.name) i.bytes []

unfoldable pub default_row : Default → Row
default_row d = make_row default_tag d.extension d.type [] []

unfoldable pub override_row : Override → Row
override_row o = make_row override_tag o.name o.type [] []

unfoldable pub relationship_row : Relationship → Row
relationship_row r = make_row (relationship_tag + r.mode) r.source r.id r.type r.target

-- KINDS. A set of the package as rows: its kind, its number among the sets, the row of an entry
pub record RowKind (E : Type 0) : Type 0 where
  pub kind : Kind E
  pub set : ℕ
  pub row : E → Row

abbrev pub item_rows : RowKind Item
item_rows = record { kind = item_kind; set = 0; row = item_row }

abbrev pub default_rows : RowKind Default
default_rows = record { kind = default_kind; set = 1; row = default_row }

abbrev pub override_rows : RowKind Override
override_rows = record { kind = override_kind; set = 2; row = override_row }

abbrev pub relationship_rows : RowKind Relationship
relationship_rows = record { kind = relationship_kind; set = 3; row = relationship_row }

-- the rows of a set
module _ {E : Type 0} (K : RowKind E) where
  abbrev pub entry_rows : State → List Row
  entry_rows S = map K.row (K.kind.entries S)

unfoldable pub other_rows : State → List Row
other_rows S = entry_rows default_rows S ++ (entry_rows override_rows S ++ entry_rows relationship_rows S)

-- items, then Defaults, Overrides and relationships, each set in its order
unfoldable pub rows_for : State → List Row
rows_for S = entry_rows item_rows S ++ other_rows S

-- KEYS OF ROWS. The set of a tag: 0 items, 1 Defaults, 2 Overrides, 3 relationships
unfoldable pub set_of : ℕ → ℕ
set_of t = cond (ltb t default_tag) 0 (cond (eqb t default_tag) 1 (cond (eqb t override_tag) 2 3))

-- what decides where the first texts are equal: an item's number, a relationship's id
unfoldable pub second : ℕ → ℕ → Bytes → Bytes
second set t id = cond (eqb set 0) (t / 2 ∷ []) (cond (eqb set 3) id [])

-- the set, then the key that the set goes by
abbrev pub set_key : ℕ → Key → Key
set_key set k = (set ∷ k.0, k.1)

abbrev pub key_in : ℕ → Bytes → ℕ → Bytes → Key
key_in set p t id = (set ∷ fold p, second set t id)

abbrev pub row_key : Row → Key
row_key r = key_in (set_of r.tag) r.f0 r.tag r.f1
