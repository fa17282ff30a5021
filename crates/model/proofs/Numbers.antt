-- Every refusal of the ledger has a number of document 01 or 02, other than 1.
-- Assumes nothing.
use Prim.Native.Nat.{ℕ, ◌≤◌}
use mathlib.Core.Bool.{Bool, true, false, not, ◌&&◌, cond}
use mathlib.Core.List.{List, [], ◌∷◌}
use mathlib.Core.Option.{Option}
use native.Mathlib.Omega.{arith}
use lib.Dec.{leb, eqb}
use lib.ListN.{length, get_or}
use Rattle.chars.specs.Bytes.{ascii, slash, open_bracket, within}
use Rattle.chars.specs.Lists.{after_last, same}
use Rattle.names.specs.Names.{part_name, reserved, last_segment, folder}
use Rattle.names.specs.Items.{suffix, named, as_piece, as_item, unless_no_slash, item_name, item_refusal}
use Rattle.names.specs.Types.{media_type, extension, identifier}
use Rattle.names.specs.Iris.{iri, package_iri}
use Rattle.names.specs.declared.items.Suffix.{Suffix}
use Rattle.names.specs.declared.items.Suffix.TheVariants.{Whole, Piece}
use Rattle.names.specs.declared.items.ItemName.{ItemName}
use Rattle.markup.specs.Streams.{said, form_of}
use Rattle.markup.specs.declared.entries.Kind.{Kind as StreamKind}
use Rattle.markup.specs.declared.entries.Kind.TheVariants.{Types, Relationships}
use Rattle.targets.specs.Targets.{internal, resolve_path, source_refusal, internal_refusal, target_refusal}
use Rattle.model.specs.Sets.{Bytes, Key, held, any, lookup, Each}
use Rattle.model.specs.Fields.{when, first, prefix_of, suffix_of, asked_field, item_field, part_field, extension_field, source_field}
use Rattle.model.specs.Fields.{id_field, package_field, target_field, default_fields, override_fields, relationship_fields}
use Rattle.model.specs.Package.{Item, Default, Override, Relationship, State, Kind, item_kind, default_kind, override_kind}
use Rattle.model.specs.Package.{relationship_kind, item_key, name_key, relationship_key, key_of_item, group, is_part, disagrees, grows, item_at}
use Rattle.model.specs.Cutting.{is_whole, cut_made, overfull, cut_refusal, join_refusal}
use Rattle.model.specs.Puts.{no_room, put_refusal, drop_refusal, misfits, clash, put_item_refusal, put_default_refusal, put_override_refusal}
use Rattle.model.specs.Puts.{put_relationship_refusal, drop_item_refusal, drop_default_refusal, drop_override_refusal, drop_relationship_refusal}
use Rattle.model.specs.Reading.{Entered, ADefault, AnOverride, ARelationship, entry_refusal, entry_made, entries_refusal}
use Rattle.model.specs.Reading.{types_in, relationships_in, read_types_refusal, read_relationships_refusal}
use Rattle.model.specs.Calls.{Change, PutItem, DropItem, PutDefault, DropDefault, PutOverride, DropOverride, PutRelationship, DropRelationship}
use Rattle.model.specs.Calls.{JoinPart, ReadTypes, ReadRelationships, Numbered, change_refusal, asked_refusal}
use Rattle.markup.proofs.Refusals.{form_gives}
use Rattle.model.proofs.Lists.{each_append}

pub numbered : (n : ℕ) → 2 ≤ n → n ≤ 20 → Numbered n
numbered n h q = (q, λ e. omega arith)

pub zero_numbered : Numbered 0
zero_numbered = (omega arith, λ e. omega arith)

cond_numbered : (b : Bool) (m n : ℕ) → Numbered m → Numbered n → Numbered (cond b m n)
cond_numbered true m n h k = h
cond_numbered false m n h k = k

pub when_numbered : (b : Bool) (n : ℕ) → 2 ≤ n → n ≤ 20 → Numbered (when b n)
when_numbered b n h q = cond_numbered b n 0 (numbered n h q) zero_numbered

pub all_numbered : (ns : List ℕ) → Each (λ (n : ℕ). Numbered n) ns → Numbered (first ns)
unfolding first
all_numbered [] h = zero_numbered
all_numbered (n ∷ ns) h = cond_numbered (eqb n 0) (first ns) n (all_numbered ns h.1) h.0

-- an item name is refused by 4 or 6
named_numbered : (b : Bool) (n : ℕ) (x : Suffix) → Numbered (item_refusal (named b n x))
named_numbered true n x = zero_numbered
named_numbered false n x = numbered 4 (omega arith) (omega arith)

piece_numbered : (x : Suffix) (p : Bytes) → Numbered (item_refusal (as_piece x p))
piece_numbered Whole p = numbered 6 (omega arith) (omega arith)
piece_numbered (Piece k l) p = named_numbered (part_name p) (length p) (Piece k l)

item_numbered : (b : Bool) (s : Bytes) → Numbered (item_refusal (as_item b s))
item_numbered true s = piece_numbered (suffix (last_segment s)) (folder s)
item_numbered false s = named_numbered (part_name s) (length s) Whole

slash_numbered : (b : Bool) (x : ItemName) → Numbered (item_refusal x) → Numbered (item_refusal (unless_no_slash b x))
slash_numbered true x h = numbered 4 (omega arith) (omega arith)
slash_numbered false x h = h

pub asked_field_numbered : (s : Bytes) → Numbered (asked_field s)
unfolding item_name
asked_field_numbered s =
    let b : Bool = eqb (get_or (last_segment s) 0 0) open_bracket in
    slash_numbered (eqb (after_last slash s) 0) (as_item b s) (item_numbered b s)

item_field_numbered : (s : Bytes) → Numbered (item_field s)
unfolding item_field
item_field_numbered s = all_numbered _ (asked_field_numbered s, (when_numbered (reserved (prefix_of s)) 5 (omega arith) (omega arith), tt))

pub part_field_numbered : (s : Bytes) → Numbered (part_field s)
part_field_numbered s = when_numbered (not (part_name s)) 4 (omega arith) (omega arith)

reserved_numbered : (s : Bytes) → Numbered (cond (reserved s) 5 0)
reserved_numbered s = cond_numbered (reserved s) 5 0 (numbered 5 (omega arith) (omega arith)) zero_numbered

pub source_field_numbered : (s : Bytes) → Numbered (source_field s)
unfolding source_refusal
source_field_numbered s =
    cond_numbered (same s (ascii "/")) 0 (cond (part_name s) (cond (reserved s) 5 0) 4) zero_numbered
    (cond_numbered (part_name s) (cond (reserved s) 5 0) 4 (reserved_numbered s) (numbered 4 (omega arith) (omega arith)))

target_field_numbered : (m : ℕ) (s t : Bytes) → Numbered (target_field m s t)
unfolding target_refusal internal_refusal
target_field_numbered m s t =
    let nine : Numbered 9 = numbered 9 (omega arith) (omega arith) in
    cond_numbered (eqb m 0) (internal_refusal s t) (cond (iri t) 0 9)
    (cond_numbered (internal t && part_name (resolve_path s t)) (cond (reserved (resolve_path s t)) 5 0) 9
    (reserved_numbered (resolve_path s t)) nine)
    (cond_numbered (iri t) 0 9 zero_numbered nine)

-- the tests that stand in several calls
seven : (b : Bool) → Numbered (when b 7)
seven b = when_numbered b 7 (omega arith) (omega arith)

eight : (b : Bool) → Numbered (when b 8)
eight b = when_numbered b 8 (omega arith) (omega arith)

ten : {E : Type 0} (o : Option E) → Numbered (when (held o) 10)
ten o = when_numbered (held o) 10 (omega arith) (omega arith)

thirteen : {E : Type 0} (o : Option E) → Numbered (when (not (held o)) 13)
thirteen o = when_numbered (not (held o)) 13 (omega arith) (omega arith)

fifteen : (limit count added : ℕ) (S : State) → Numbered (when (no_room limit count added S) 15)
fifteen limit count added S = when_numbered (no_room limit count added S) 15 (omega arith) (omega arith)

misfits_numbered : (s : Bytes) (is : List Item) → Each (λ (n : ℕ). Numbered n) (misfits s is)
misfits_numbered s is = (
  when_numbered (any (λ (i : Item). disagrees (suffix_of s) (suffix_of i.name)) (group (prefix_of s) is)) 12 (omega arith) (omega arith),
  (when_numbered (any (λ (i : Item). grows (prefix_of s) (prefix_of i.name)) is) 11 (omega arith) (omega arith), tt),
)

pub clash_numbered : (s : Bytes) (is : List Item) → Numbered (clash s is)
unfolding clash
clash_numbered s is = all_numbered _ (ten (lookup key_of_item (item_key s) is), misfits_numbered s is)

pub asked_numbered : (S : State) (s : Bytes) → Numbered (asked_refusal S s)
unfolding asked_refusal
asked_numbered S s = all_numbered _ (asked_field_numbered s, (thirteen (item_at s S.items), tt))

-- a put and a drop, whichever the kind
module _ {E : Type 0} (kind : Kind E) (S : State) where
  put_numbered : (e : E) (own : List ℕ) → Numbered (kind.fields e) → Each (λ (n : ℕ). Numbered n) own → Numbered (put_refusal kind S e own)
  put_numbered e own f o =
      all_numbered _ (
        f,
        (
          ten (lookup kind.key (kind.key e) (kind.entries S)),
          each_append (λ (n : ℕ). Numbered n) own _ o
              (fifteen kind.limit (length (kind.entries S)) (kind.charge e) S, tt),
        ),
      )

  drop_numbered : (fields : List ℕ) (k : Key) → Each (λ (n : ℕ). Numbered n) fields → Numbered (drop_refusal kind S fields k)
  drop_numbered fields k f =
      all_numbered _ (each_append (λ (n : ℕ). Numbered n) fields _ f (thirteen (lookup kind.key k (kind.entries S)), tt))

pub default_numbered : (d : Default) → Numbered (default_kind.fields d)
unfolding default_fields
default_numbered d = all_numbered _ (seven (not (extension d.extension)), (seven (not (media_type d.type)), tt))

pub override_numbered : (o : Override) → Numbered (override_kind.fields o)
unfolding override_fields
override_numbered o = all_numbered _ (part_field_numbered o.name, (seven (not (media_type o.type)), tt))

pub relationship_numbered : (r : Relationship) → Numbered (relationship_kind.fields r)
unfolding relationship_fields
relationship_numbered r =
    all_numbered _ (
      source_field_numbered r.source,
      (
        eight (not (identifier r.id)),
        (
          eight (not (package_iri r.type)),
          (eight (not (leb r.mode 1)), (target_field_numbered r.mode r.source r.target, tt)),
        ),
      ),
    )

-- a cut and a join
pub cut_numbered : (S : State) (s : Bytes) (n : ℕ) → Numbered (cut_refusal S s n)
unfolding cut_refusal
cut_numbered S s n =
    all_numbered _ (
      part_field_numbered s,
      (
        when_numbered (not (is_part (group s S.items))) 13 (omega arith) (omega arith),
        (
          when_numbered (not (is_whole (group s S.items))) 18 (omega arith) (omega arith),
          (
            when_numbered (not (within 1 256 n)) 17 (omega arith) (omega arith),
            (when_numbered (overfull (cut_made S s n)) 15 (omega arith) (omega arith), tt),
          ),
        ),
      ),
    )

pub join_numbered : (S : State) (s : Bytes) → Numbered (join_refusal S s)
unfolding join_refusal
join_numbered S s =
    all_numbered _ (
      part_field_numbered s,
      (
        when_numbered (not (is_part (group s S.items))) 13 (omega arith) (omega arith),
        (when_numbered (is_whole (group s S.items)) 18 (omega arith) (omega arith), tt),
      ),
    )

-- a stream, and its entries
form_numbered : (K : StreamKind) (s : Bytes) → Numbered (form_of (said K s))
form_numbered K s = form_gives Numbered (numbered 19 (omega arith) (omega arith)) (numbered 20 (omega arith) (omega arith)) K s zero_numbered

entry_numbered : (S : State) (e : Entered) → Numbered (entry_refusal S e)
unfolding put_default_refusal put_override_refusal put_relationship_refusal
entry_numbered S (ADefault d) = put_numbered default_kind S d [] (default_numbered d) tt
entry_numbered S (AnOverride o) = put_numbered override_kind S o [] (override_numbered o) tt
entry_numbered S (ARelationship r) = put_numbered relationship_kind S r [] (relationship_numbered r) tt

pub entries_numbered : (S : State) (es : List Entered) → Numbered (entries_refusal S es)
unfolding entries_refusal
entries_numbered S [] = zero_numbered
entries_numbered S (e ∷ es) = all_numbered _ (entry_numbered S e, (entries_numbered (entry_made S e) es, tt))

pub change_numbered : (S : State) (c : Change) → Numbered (change_refusal S c)
unfolding put_item_refusal drop_item_refusal put_default_refusal drop_default_refusal put_override_refusal drop_override_refusal
    put_relationship_refusal drop_relationship_refusal read_types_refusal read_relationships_refusal
change_numbered S (PutItem s x) =
    put_numbered item_kind S (record { name = s; bytes = x }) (misfits s S.items) (item_field_numbered s) (misfits_numbered s S.items)
change_numbered S (DropItem s) = all_numbered _ (item_field_numbered s, (thirteen (item_at s S.items), tt))
change_numbered S (PutDefault s v) = put_numbered default_kind S _ [] (default_numbered (record { extension = s; type = v })) tt
change_numbered S (DropDefault s) = drop_numbered default_kind S (extension_field s ∷ []) (name_key s) (seven (not (extension s)), tt)
change_numbered S (PutOverride s v) = put_numbered override_kind S _ [] (override_numbered (record { name = s; type = v })) tt
change_numbered S (DropOverride s) = drop_numbered override_kind S (part_field s ∷ []) (name_key s) (part_field_numbered s, tt)
change_numbered S (PutRelationship s i v m t) =
    put_numbered relationship_kind S _ [] (relationship_numbered (record { source = s; id = i; type = v; mode = m; target = t })) tt
change_numbered S (DropRelationship s i) =
    drop_numbered relationship_kind S (source_field s ∷ id_field i ∷ []) (relationship_key s i)
    (source_field_numbered s, (eight (not (identifier i)), tt))
change_numbered S (JoinPart s) = join_numbered S s
change_numbered S (ReadTypes x) = all_numbered _ (form_numbered Types x, (entries_numbered S (types_in x), tt))
change_numbered S (ReadRelationships s x) =
    all_numbered _ (source_field_numbered s, (form_numbered Relationships x, (entries_numbered S (relationships_in s x), tt)))

-- the fields of a resolution, and of a stream's source
pub resolve_fields_numbered : (s i base : Bytes) → Numbered (first (source_field s ∷ id_field i ∷ package_field base ∷ []))
resolve_fields_numbered s i base =
    all_numbered _ (
      source_field_numbered s,
      (eight (not (identifier i)), (when_numbered (not (package_iri base)) 9 (omega arith) (omega arith), tt)),
    )
