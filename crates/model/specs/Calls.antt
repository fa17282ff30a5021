-- What each call answers, and the package after it: document 01's ledger, call by call, and document 02's calls that join it.
-- Assumes nothing.
use Rattle.std.specs.Prelude.{ℕ, ◌+◌, ◌≤◌, ◌≡◌, Bool, true, false, not, ◌||◌, cond, List, [], ◌∷◌, leb, ltb, eqb, length, get_or, take, drop}
use Rattle.std.proofs.Math.Option.{Option, none, some}
use Rattle.output.specs.Answers.{Outcome, Text, Refused, unless, Answer, answer, choose, filled}
use Rattle.iri.specs.References.{resolve}
use Rattle.targets.specs.Targets.{resolve_path}
use Rattle.pack.specs.Pack.{unfragmented, pack_iri}
use Rattle.model.specs.Sets.{Bytes, held, lookup}
use Rattle.model.specs.Fields.{when, first, asked_field, part_field, source_field, id_field, package_field}
use Rattle.model.specs.Package.{Item, Relationship, State, empty, charge, item_kind, default_kind, override_kind, relationship_kind}
use Rattle.model.specs.Package.{item_key, name_key, relationship_key, key_of_relationship}
use Rattle.model.specs.Package.{group, is_part, content, spelling, parts, no_part, part_refusal, item_at, media_type_of}
use Rattle.model.specs.Texts.{types_text, relationships_text}
use Rattle.model.specs.Puts.{put_in, taken_out, put_item_refusal, drop_item_refusal, put_default_refusal, drop_default_refusal}
use Rattle.model.specs.Puts.{put_override_refusal, drop_override_refusal, put_relationship_refusal, drop_relationship_refusal}
use Rattle.model.specs.Reading.{read_types_refusal, read_relationships_refusal, read_types_made, read_relationships_made}
use Rattle.model.specs.Cutting.{quotient, rest, cut_made, join_made, cut_refusal, join_refusal}
use Rattle.model.specs.TypeOrigin.{type_origin}

-- a call that only looks
pub data Look : Type 0 where
  Find : (name : Bytes) → Look
  View : (name : Bytes) → Look
  Totals : Look

-- a call that changes the package and names no value
pub data Change : Type 0 where
  PutItem : (name bytes : Bytes) → Change
  DropItem : (name : Bytes) → Change
  PutDefault : (extension type : Bytes) → Change
  DropDefault : (extension : Bytes) → Change
  PutOverride : (name type : Bytes) → Change
  DropOverride : (name : Bytes) → Change
  PutRelationship : (source id type : Bytes) (mode : ℕ) (target : Bytes) → Change
  DropRelationship : (source id : Bytes) → Change
  JoinPart : (name : Bytes) → Change
  ReadTypes : (stream : Bytes) → Change
  ReadRelationships : (source stream : Bytes) → Change

-- a call that writes into a lent output
pub data Print : Type 0 where
  ReadPart : (name : Bytes) (offset : ℕ) → Print
  MediaType : (name : Bytes) → Print
  PartAt : (position : ℕ) → Print
  ResolveRelationship : (source id base : Bytes) → Print
  WriteTypes : Print
  WriteRelationships : (source : Bytes) → Print

-- a call with its inputs: "the bytes that an output held before, are inputs of the ledger too". Its `Answer` is what is compared: "for every
-- call, the number, all values and every byte of each output, written or kept; for view the bytes of its part"
pub data Call : Type 0 where
  Start : (C : ℕ) → Call
  Looks : Look → Call
  Changes : Change → Call
  CutPart : (name : Bytes) (n : ℕ) → Call
  TypeOrigin : (name output : Bytes) → Call
  Prints : Print → (output : Bytes) → Call

-- "An accepted call answers 0 and its value, or 0 and 0 where none is named"
abbrev pub done : Answer
done = answer 0 (0 ∷ []) []

-- "A refusal answers its number and 0 for every value"
abbrev pub refused : ℕ → Answer
refused n = answer n (0 ∷ []) []

-- "refuses by a number from document 01" or document 02; on a buffer that passes the test not by 1
abbrev pub Numbered : ℕ → Type 0
Numbered n = (n ≤ 20) × (n ≡ 1 → ⊥)

abbrev pub pick : Bool → Answer × State → Answer × State → Answer × State
pick true a b = a
pick false a b = b

-- a change of S into T, unless refused by the number n: then "package and outputs stay unchanged"
abbrev pub changed : ℕ → State → State → Answer × State
changed n S T = pick (eqb n 0) (done, T) (refused n, S)

-- START. "2 at start, C above 1,000,000 or the buffer too short"; "The lent package is at least C + 32,768 bytes". room is its length
abbrev pub capacity_limit : ℕ
capacity_limit = 1000000

abbrev pub overhead : ℕ
overhead = 32768

unfoldable pub start_refusal : ℕ → ℕ → ℕ
start_refusal room C = when (ltb capacity_limit C || ltb room (C + overhead)) 2

-- CHANGES
abbrev pub change_refusal : State → Change → ℕ
change_refusal S (PutItem name bytes) = put_item_refusal S name bytes
change_refusal S (DropItem name) = drop_item_refusal S name
change_refusal S (PutDefault extension type) = put_default_refusal S extension type
change_refusal S (DropDefault extension) = drop_default_refusal S extension
change_refusal S (PutOverride name type) = put_override_refusal S name type
change_refusal S (DropOverride name) = drop_override_refusal S name
change_refusal S (PutRelationship source id type mode target) = put_relationship_refusal S source id type mode target
change_refusal S (DropRelationship source id) = drop_relationship_refusal S source id
change_refusal S (JoinPart name) = join_refusal S name
change_refusal S (ReadTypes stream) = read_types_refusal S stream
change_refusal S (ReadRelationships source stream) = read_relationships_refusal S source stream

-- the package after an accepted change: "Every field keeps its given spelling."
abbrev pub change_made : State → Change → State
change_made S (PutItem name bytes) = put_in item_kind S (record { name = name; bytes = bytes })
change_made S (DropItem name) = taken_out item_kind S (item_key name)
change_made S (PutDefault extension type) = put_in default_kind S (record { extension = extension; type = type })
change_made S (DropDefault extension) = taken_out default_kind S (name_key extension)
change_made S (PutOverride name type) = put_in override_kind S (record { name = name; type = type })
change_made S (DropOverride name) = taken_out override_kind S (name_key name)
change_made S (PutRelationship source id type mode target) =
    put_in relationship_kind S (record { source = source; id = id; type = type; mode = mode; target = target })
change_made S (DropRelationship source id) = taken_out relationship_kind S (relationship_key source id)
change_made S (JoinPart name) = join_made S name
change_made S (ReadTypes stream) = read_types_made S stream
change_made S (ReadRelationships source stream) = read_relationships_made S source stream

unfoldable pub change : State → Change → Answer × State
change S c = changed (change_refusal S c) S (change_made S c)

-- a cut: "q and r .., both in the answer"
unfoldable pub cut : State → Bytes → ℕ → Answer × State
cut S name n =
    pick (eqb (cut_refusal S name n) 0)
    (answer 0 (quotient (group name S.items) n ∷ rest (group name S.items) n ∷ []) [], cut_made S name n)
    (answer (cut_refusal S name n) (0 ∷ 0 ∷ []) [], S)

-- LOOKS. An item that is asked for: its name by 6 and 4, then "13 not held"
unfoldable pub asked_refusal : State → Bytes → ℕ
asked_refusal S name =
    first
    (asked_field name
    ∷ when (not (held (item_at name S.items))) 13
    ∷ [])

abbrev pub bytes_of : Option Item → Bytes
bytes_of none = []
bytes_of (some i) = i.bytes

unfoldable pub look : State → Look → Answer
-- "find item: its length"
look S (Find name) = choose (eqb (asked_refusal S name) 0) (answer 0 (length (bytes_of (item_at name S.items)) ∷ []) []) (refused (asked_refusal S name))
-- "view item: its bytes .., empty on refusal, and that part's bytes .. are its only answer": no number and no value
look S (View name) = choose (eqb (asked_refusal S name) 0) (answer 0 [] (bytes_of (item_at name S.items))) (answer 0 [] [])
-- "totals: how many items are held, how many groups are a part, the charge"
look S Totals = answer 0 (length S.items ∷ length (parts S.items) ∷ charge S ∷ []) []

-- PRINTS
abbrev pub text_of : Option Bytes → Bytes
text_of none = []
text_of (some t) = t

abbrev pub flag : Bool → ℕ
flag b = cond b 1 0

-- "internal, the pack IRI of the path resolved from the source as held; external, the target resolved against the package IRI without
-- fragment; besides the length it answers the mode, and 1 if that part is held, else 0 (external: 0)"; "13 not held"
unfoldable pub resolved : State → Bytes → Option Relationship → Outcome
resolved S base none = Refused 13
resolved S base (some r) =
    cond (eqb r.mode 1)
    (Text (resolve (unfragmented base) r.target) (1 ∷ 0 ∷ []))
    (Text (pack_iri base (resolve_path r.source r.target)) (0 ∷ flag (is_part (group (resolve_path r.source r.target) S.items)) ∷ []))

-- for an output of so many bytes
unfoldable pub printed : State → ℕ → Print → Outcome
-- "read part(name, offset): the content from there, as much as the output takes; none past its end"
printed S size (ReadPart name offset) =
    unless (part_refusal S name) (Text (take size (drop offset (content (group name S.items)))) [])
-- "media type of a part: its Override, else the Default of its extension, copied out"; "14 no media type"
printed S size (MediaType name) =
    unless (first (part_field name ∷ no_part S name ∷ when (not (held (media_type_of name S))) 14 ∷ [])) (Text (text_of (media_type_of name S)) [])
-- "part at position i, from 0, in folded order: its spelling"; "13 .. no such position"
printed S size (PartAt position) =
    unless (when (leb (length (parts S.items)) position) 13) (Text (spelling (get_or (parts S.items) position [])) [])
-- "resolve relationship(source, id, package IRI)"
printed S size (ResolveRelationship source id base) =
    unless (first (source_field source ∷ id_field id ∷ package_field base ∷ []))
    (resolved S base (lookup key_of_relationship (relationship_key source id) S.relationships))
-- "write types, write relationships of a source: XML lines"
printed S size WriteTypes = Text (types_text S) []
-- "A source without relationships, held or not, gets no entry lines."
printed S size (WriteRelationships source) = unless (source_field source) (Text (relationships_text source S) [])

-- how many values a call answers: the length; the mode and the flag besides
abbrev pub value_count : Print → ℕ
value_count (ReadPart name offset) = 1
value_count (MediaType name) = 1
value_count (PartAt position) = 1
value_count (ResolveRelationship source id base) = 3
value_count WriteTypes = 1
value_count (WriteRelationships source) = 1

-- A STEP: the answer, and the package after the call. room is the length of the lent package
abbrev pub step : ℕ → State → Call → Answer × State
step room S (Start C) = changed (start_refusal room C) S (empty C)
step room S (Looks q) = (look S q, S)
step room S (Changes c) = change S c
step room S (CutPart name n) = cut S name n
-- "The package keeps its bytes."
step room S (TypeOrigin name output) = (type_origin S name output, S)
step room S (Prints p output) = (filled (value_count p) output (printed S (length output) p), S)

-- A LIST OF CALLS: every answer, and the package after the last. "Each call of a list is lent the package as the call before left it, in
-- full length", so room stays
unfoldable pub answers : ℕ → State → List Call → List Answer
answers room S [] = []
answers room S (c ∷ cs) = (step room S c).0 ∷ answers room (step room S c).1 cs

unfoldable pub after : ℕ → State → List Call → State
after room S [] = S
after room S (c ∷ cs) = after room (step room S c).1 cs

-- the bytes that the call's output holds before it
abbrev pub lent : Call → Bytes
lent (Start C) = []
lent (Looks q) = []
lent (Changes c) = []
lent (CutPart name n) = []
lent (TypeOrigin name output) = output
lent (Prints p output) = output
