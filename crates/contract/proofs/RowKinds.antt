-- What the four sets have in common as rows: keys, sizes, and that the rows of each stand between those of lesser and greater sets.
-- Assumes nothing.
use Prim.Native.Nat.{ℕ, ◌+◌, ◌≤◌, ◌<◌}
use mathlib.Core.Path.{◌≡◌, refl, ap, sym, ◌∙◌}
use mathlib.Core.List.{List, [], ◌++◌, map, append_assoc, append-nil}
use native.Mathlib.Omega.{arith}
use lib.ListN.{length, length-append, length-take, length-drop, length-map}
use Rattle.names.specs.Items.{item_name}
use Rattle.names.specs.declared.items.ItemName.{ItemName}
use Rattle.names.specs.declared.items.ItemName.TheVariants.{Named, Refused}
use Rattle.model.specs.Sets.{Bytes, Each}
use Rattle.model.specs.Fields.{prefix_in, prefix_of}
use Rattle.model.specs.Package.{Item, Default, Override, Relationship, State, item_charge, default_charge, override_charge, relationship_charge}
use Rattle.model.specs.Good.{Good}
use Rattle.model.proofs.Lists.{each_append}
use Rattle.model.proofs.KindLaws.{Lawful, item_lawful, default_lawful, override_lawful, relationship_lawful}
use Rattle.store.specs.Layout.{slot_count}
use Rattle.store.specs.Rows.{Row, row_size}
use Rattle.contract.specs.Rows.{item_row, default_row, override_row, relationship_row, set_of, set_key, row_key, RowKind, item_rows}
use Rattle.contract.specs.Rows.{default_rows, override_rows, relationship_rows, entry_rows, other_rows, rows_for}
use Rattle.contract.proofs.RowLists.{each_of}
use Rattle.contract.proofs.RowKeys.{item_row_key, item_row_set, default_row_key, default_row_set, override_row_key, override_row_set, relationship_row_key, relationship_row_set}

module _ {E : Type 0} (K : RowKind E) where
  pub record RowLawful : Type 0 where
    pub lawful : Lawful K.kind
    -- the key of a row is its entry's, in the set; its bytes are the entry's charge
    pub keyed : (x : E) → row_key (K.row x) ≡ set_key K.set (K.kind.key x)
    pub placed : (x : E) → set_of (K.row x).tag ≡ K.set
    pub sized : (x : E) → row_size (K.row x) ≡ K.kind.charge x
    -- the rows of lesser sets stand in front of the set's, those of greater ones behind
    pub front : State → List Row
    pub back : State → List Row
    pub below : (S : State) → Each (λ (r : Row). set_of r.tag < K.set) (front S)
    pub above : (S : State) → Each (λ (r : Row). K.set < set_of r.tag) (back S)
    pub rows : (S : State) (l : List E) → rows_for (K.kind.renewed S l) ≡ front S ++ (map K.row l ++ back S)
    -- a set that is not full leaves a slot free
    pub slot : (S : State) → Good S → length (K.kind.entries S) < K.kind.limit → length (rows_for S) < slot_count

  pub own_rows : (L : RowLawful) (S : State) → rows_for S ≡ L.front S ++ (entry_rows K S ++ L.back S)
  own_rows L S = ap rows_for (sym (L.lawful.same S)) ∙ L.rows S (K.kind.entries S)

-- SIZES
pub prefix_le : (s : Bytes) → length (prefix_of s) ≤ length s
unfolding prefix_of
prefix_le s = go (item_name s)
  where
    go : (n : ItemName) → length (prefix_in n s) ≤ length s
    go (Named n x) = rw length-take (omega arith)
    go (Refused k) = omega arith

pub item_size : (i : Item) → row_size (item_row i) ≡ item_charge i
unfolding item_row
item_size i = rw length-drop (omega (arith, prefix_le i.name))

pub default_size : (d : Default) → row_size (default_row d) ≡ default_charge d
unfolding default_row
default_size d = omega arith

pub override_size : (o : Override) → row_size (override_row o) ≡ override_charge o
unfolding override_row
override_size o = omega arith

pub relationship_size : (r : Relationship) → row_size (relationship_row r) ≡ relationship_charge r
unfolding relationship_row
relationship_size r = omega arith

-- NUMBERS
pub length_rows : (S : State) →
    length (rows_for S) ≡ length S.items + (length S.defaults + (length S.overrides + length S.relationships))
unfolding rows_for other_rows
length_rows S =
    rw (
      length-append,
      length-append,
      length-append,
      length-map S.items item_row,
      length-map S.defaults default_row,
      length-map S.overrides override_row,
      length-map S.relationships relationship_row,
    )

pub free_slot : (S : State) → Good S →
    length S.items + length S.defaults + length S.overrides + length S.relationships < slot_count →
    length (rows_for S) < slot_count
free_slot S g h = omega (arith, length_rows S)

-- THE ORDER OF THE SETS
module _ {E : Type 0} (K : RowKind E) (placed : (x : E) → set_of (K.row x).tag ≡ K.set) (S : State) where
  pub rows_below : (n : ℕ) → K.set < n → Each (λ (r : Row). set_of r.tag < n) (entry_rows K S)
  rows_below n h = each_of K.row (λ (r : Row). set_of r.tag < n) (λ x. omega (arith, placed x)) (K.kind.entries S)

  pub rows_above : (n : ℕ) → n < K.set → Each (λ (r : Row). n < set_of r.tag) (entry_rows K S)
  rows_above n h = each_of K.row (λ (r : Row). n < set_of r.tag) (λ x. omega (arith, placed x)) (K.kind.entries S)

module _ (S : State) where
  abbrev I : List Row
  I = entry_rows item_rows S

  abbrev D : List Row
  D = entry_rows default_rows S

  abbrev O : List Row
  O = entry_rows override_rows S

  abbrev R : List Row
  R = entry_rows relationship_rows S

  pub past : (n : ℕ) → n < 2 → Each (λ (r : Row). n < set_of r.tag) (O ++ R)
  past n h =
      each_append (λ (r : Row). n < set_of r.tag) O R (rows_above override_rows override_row_set S n (omega arith))
      (rows_above relationship_rows relationship_row_set S n (omega arith))

  pub after_items : (n : ℕ) (l : List Row) → 0 < n → Each (λ (r : Row). set_of r.tag < n) l →
      Each (λ (r : Row). set_of r.tag < n) (I ++ l)
  after_items n l h e = each_append (λ (r : Row). set_of r.tag < n) I l (rows_below item_rows item_row_set S n h) e

unfoldable pub item_rows_lem : RowLawful item_rows
unfolding rows_for other_rows
item_rows_lem = record {
  lawful = item_lawful;
  keyed = item_row_key;
  placed = item_row_set;
  sized = item_size;
  front = λ S. [];
  back = λ S. other_rows S;
  below = λ S. tt;
  above = λ S. each_append (λ (r : Row). 0 < set_of r.tag) (D S) (O S ++ R S)
      (rows_above default_rows default_row_set S 0 (omega arith)) (past S 0 (omega arith));
  rows = λ S l. refl;
  slot = λ S g l. free_slot S g (omega (arith, g.defaults.few, g.overrides.few, g.relationships.few));
}

unfoldable pub default_rows_lem : RowLawful default_rows
unfolding rows_for other_rows
default_rows_lem = record {
  lawful = default_lawful;
  keyed = default_row_key;
  placed = default_row_set;
  sized = default_size;
  front = λ S. I S;
  back = λ S. O S ++ R S;
  below = λ S. rows_below item_rows item_row_set S 1 (omega arith);
  above = λ S. past S 1 (omega arith);
  rows = λ S l. refl;
  slot = λ S g l. free_slot S g (omega (arith, g.items.few, g.overrides.few, g.relationships.few));
}

unfoldable pub override_rows_lem : RowLawful override_rows
unfolding rows_for other_rows
override_rows_lem = record {
  lawful = override_lawful;
  keyed = override_row_key;
  placed = override_row_set;
  sized = override_size;
  front = λ S. I S ++ D S;
  back = λ S. R S;
  below = λ S. after_items S 2 (D S) (omega arith) (rows_below default_rows default_row_set S 2 (omega arith));
  above = λ S. rows_above relationship_rows relationship_row_set S 2 (omega arith);
  rows = λ S l. sym (append_assoc (I S) (D S) (map override_row l ++ R S));
  slot = λ S g l. free_slot S g (omega (arith, g.items.few, g.defaults.few, g.relationships.few));
}

unfoldable pub relationship_rows_lem : RowLawful relationship_rows
unfolding rows_for other_rows
relationship_rows_lem = record {
  lawful = relationship_lawful;
  keyed = relationship_row_key;
  placed = relationship_row_set;
  sized = relationship_size;
  front = λ S. I S ++ (D S ++ O S);
  back = λ S. [];
  below = λ S. after_items S 3 (D S ++ O S) (omega arith)
      (each_append (λ (r : Row). set_of r.tag < 3) (D S) (O S) (rows_below default_rows default_row_set S 3 (omega arith))
      (rows_below override_rows override_row_set S 3 (omega arith)));
  above = λ S. tt;
  rows = λ S l. behind S (map relationship_row l);
  slot = λ S g l. free_slot S g (omega (arith, g.items.few, g.defaults.few, g.overrides.few));
}
  where
    behind : (S : State) (l : List Row) → I S ++ (D S ++ (O S ++ l)) ≡ (I S ++ (D S ++ O S)) ++ (l ++ [])
    behind S l = rw (append-nil l, append_assoc (I S) (D S ++ O S) l, append_assoc (D S) (O S) l)
