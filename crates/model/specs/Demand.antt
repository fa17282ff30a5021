-- What document 01's readers ask of the abstract package itself (demand 3, "How the reviewer goes about it"). `proofs/Demands.antt` and
-- `proofs/FreshPuts.antt` prove it.
-- Assumes nothing.
use Rattle.std.specs.Prelude.{ℕ, ◌+◌, ◌≤◌, ◌≡◌, true, false, List, [], ◌∷◌, eqb, length, take}
use Rattle.std.proofs.Math.Option.{none}
use Rattle.chars.specs.Folding.{equivalent}
use Rattle.names.specs.Names.{part_name, extension_at}
use Rattle.names.specs.declared.items.Suffix.TheVariants.{Whole}
use Rattle.output.specs.Answers.{answer, Text, filled}
use Rattle.model.specs.Sets.{Bytes, same_key, lookup, sum_of}
use Rattle.model.specs.Fields.{suffix_of, item_field}
use Rattle.model.specs.Package.{State, empty, item_key, name_key, key_of_override, item_charge, default_charge, override_charge, relationship_charge, group, is_part, parts, extension_of}
use Rattle.model.specs.Calls.{Call, Looks, Changes, Prints, Find, View, Totals, Change, PutItem, DropItem, PutDefault, DropDefault}
use Rattle.model.specs.Calls.{PutOverride, DropOverride, PutRelationship, DropRelationship, JoinPart, ReadTypes, ReadRelationships, ReadPart, MediaType}
use Rattle.model.specs.Calls.{done, start_refusal, step, after}
use Rattle.model.specs.Good.{Good}

-- "A list of demand 3 starts from a package that an accepted start has just left": after every such list the package is good
abbrev pub EveryList : Type 0
EveryList = (room C : ℕ) (calls : List Call) → start_refusal room C ≡ 0 → Good (after room (empty C) calls)

-- "The charge that totals then reports is the sum over the ledger's entries."; "totals come from the sets"
abbrev pub TotalsAreSums : Type 0
TotalsAreSums =
    (room : ℕ) (S : State) →
    (step room S (Looks Totals)).0.values
    ≡ length S.items
    ∷ length (parts S.items)
    ∷ (sum_of item_charge S.items + sum_of default_charge S.defaults + sum_of override_charge S.overrides + sum_of relationship_charge S.relationships)
    ∷ []

-- "Tries a put that says 0 and holds nothing": an accepted put is found, with its length and its bytes, whatever was held before
abbrev pub PutsAreFound : Type 0
PutsAreFound =
    (room : ℕ) (S : State) (name bytes : Bytes) → (step room S (Changes (PutItem name bytes))).0.number ≡ 0 →
    ((step room (step room S (Changes (PutItem name bytes))).1 (Looks (Find name))).0 ≡ answer 0 (length bytes ∷ []) [])
    × ((step room (step room S (Changes (PutItem name bytes))).1 (Looks (View name))).0 ≡ answer 0 [] bytes)

-- "then one that holds the first item only": a put, accepted or not, leaves what is found and viewed under every other item name
abbrev pub PutsKeepOthers : Type 0
PutsKeepOthers =
    (room : ℕ) (S : State) (name bytes other : Bytes) → same_key (item_key other) (item_key name) ≡ false →
    ((step room (step room S (Changes (PutItem name bytes))).1 (Looks (Find other))).0 ≡ (step room S (Looks (Find other))).0)
    × ((step room (step room S (Changes (PutItem name bytes))).1 (Looks (View other))).0 ≡ (step room S (Looks (View other))).0)

-- "an engine that refuses each put with 15 on an empty package": there a put of an item name is accepted wherever its charge does not pass C
abbrev pub FirstPutsFit : Type 0
FirstPutsFit =
    (room C : ℕ) (name bytes : Bytes) → item_field name ≡ 0 → length name + length bytes ≤ C → (step room (empty C) (Changes (PutItem name bytes))).0 ≡ done

-- "a media type that never varies": the media type of a part is that of an Override just put; of a Default just put for its extension, where
-- the part has no Override
abbrev pub OverridesAnswer : Type 0
OverridesAnswer =
    (room : ℕ) (S : State) (name type output : Bytes) → (step room S (Changes (PutOverride name type))).0.number ≡ 0 → is_part (group name S.items) ≡ true →
    (step room (step room S (Changes (PutOverride name type))).1 (Prints (MediaType name) output)).0 ≡ filled 1 output (Text type [])

abbrev pub DefaultsAnswer : Type 0
DefaultsAnswer =
    (room : ℕ) (S : State) (extension type name output : Bytes) → (step room S (Changes (PutDefault extension type))).0.number ≡ 0 →
    part_name name ≡ true → is_part (group name S.items) ≡ true → lookup key_of_override (name_key name) S.overrides ≡ none →
    eqb (extension_at name) 0 ≡ false → equivalent (extension_of name) extension ≡ true →
    (step room (step room S (Changes (PutDefault extension type))).1 (Prints (MediaType name) output)).0 ≡ filled 1 output (Text type [])

-- "a part said to be missing before the group was looked at": a whole item just put is a part, and reading it gives its bytes
abbrev pub WholeItemsAreParts : Type 0
WholeItemsAreParts =
    (room : ℕ) (S : State) (name bytes output : Bytes) → (step room S (Changes (PutItem name bytes))).0.number ≡ 0 → suffix_of name ≡ Whole →
    (step room (step room S (Changes (PutItem name bytes))).1 (Prints (ReadPart name 0) output)).0 ≡ filled 1 output (Text (take (length output) bytes) [])

-- the drop of what a put puts in
abbrev pub drop_of : Change → Change
drop_of (PutItem name bytes) = DropItem name
drop_of (DropItem name) = DropItem name
drop_of (PutDefault extension type) = DropDefault extension
drop_of (DropDefault extension) = DropDefault extension
drop_of (PutOverride name type) = DropOverride name
drop_of (DropOverride name) = DropOverride name
drop_of (PutRelationship source id type mode target) = DropRelationship source id
drop_of (DropRelationship source id) = DropRelationship source id
drop_of (JoinPart name) = JoinPart name
drop_of (ReadTypes stream) = ReadTypes stream
drop_of (ReadRelationships source stream) = ReadRelationships source stream

abbrev pub IsPut : Change → Type 0
IsPut (PutItem name bytes) = Unit {0}
IsPut (DropItem name) = ⊥
IsPut (PutDefault extension type) = Unit {0}
IsPut (DropDefault extension) = ⊥
IsPut (PutOverride name type) = Unit {0}
IsPut (DropOverride name) = ⊥
IsPut (PutRelationship source id type mode target) = Unit {0}
IsPut (DropRelationship source id) = ⊥
IsPut (JoinPart name) = ⊥
IsPut (ReadTypes stream) = ⊥
IsPut (ReadRelationships source stream) = ⊥

-- an accepted put, then the drop of the same: accepted, and the very package
abbrev pub DropsUndoPuts : Type 0
DropsUndoPuts =
    (room : ℕ) (S : State) (c : Change) → IsPut c → (step room S (Changes c)).0.number ≡ 0 →
    step room (step room S (Changes c)).1 (Changes (drop_of c)) ≡ (done, S)
