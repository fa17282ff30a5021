-- What the answers of the code tell of an entry in a stream s, by the places of its values.
-- Assumes nothing.
use Rattle.std.specs.Prelude.{ℕ, min, ◌+◌, ◌-◌, ◌≡◌, Bool, true, false, List, eqb, length, take, drop, Some, None, IfSome}
use Rattle.std.specs.Prelude.{Option as Optional}
use Rattle.std.proofs.Math.Option.{Option, none, some}
use Rattle.base.specs.Buffer.{part}
use Rattle.chars.specs.Bytes.{ascii}
use Rattle.markup.specs.Marks.{unquoted}
use Rattle.markup.specs.Tags.{Attribute, attributes_at, attribute_named, own, Tag}
use Rattle.markup.specs.Entries.{Entry, SaysDefault, SaysOverride, SaysRelationship, value_in, of_two, of_three, mode_of, given, entry_of}
use Rattle.markup.specs.Streams.{is_root}
use Rattle.markup.specs.Walks.{Reached}
use Rattle.markup.specs.declared.entries.Kind.{Kind}
use Rattle.markup.specs.declared.entries.Value.{Value}
use Rattle.markup.specs.declared.entries.Mode.{Mode}
use Rattle.markup.specs.declared.entries.Mode.TheVariants.{Internal, External, Neither}
use Rattle.markup.specs.declared.entries.Entered.{Entered}
use Rattle.markup.specs.declared.entries.Entered.TheVariants.{Typed, Related}

-- FIELDS: the first bytes that a value means, as many as there is room for
abbrev pub field_size : ℕ
field_size = 256

pub record Decoded (s out : List ℕ) (n : ℕ) : Type 0 where
  pub size : length out ≡ field_size
  pub count : n ≡ min (length (unquoted 0 s)) field_size
  pub is : take n out ≡ take field_size (unquoted 0 s)

-- VALUES: what stands from one place to another
abbrev pub meant : List ℕ → Value → List ℕ
meant s v = unquoted 0 (part v.from (v.to - v.from) s)

abbrev pub of_value : List ℕ → Optional Value → Option (List ℕ)
of_value s (Some v) = some (meant s v)
of_value s None = none

-- 1 for a value that stands there
abbrev pub given_at : Optional Value → ℕ
given_at (Some v) = 1
given_at None = 0

abbrev pub ValueWithin : List ℕ → Value → Type 0
ValueWithin s v = Reached s v.from v.to

pub record Valued (s : List ℕ) (v : Option (List ℕ)) (r : Optional Value) : Type 0 where
  pub within : IfSome r (ValueWithin s)
  pub is : of_value s r ≡ v

-- MODES
abbrev pub mode_number : Mode → ℕ
mode_number Internal = 0
mode_number External = 1
mode_number Neither = 2

-- ENTRIES
abbrev pub says_typed : Bool → List ℕ → List ℕ → Entry
says_typed true key type = SaysDefault key type
says_typed false key type = SaysOverride key type

abbrev pub of_entered : List ℕ → Optional Entered → Option Entry
of_entered s (Some (Typed default key media)) = some (says_typed default (meant s key) (meant s media))
of_entered s (Some (Related id iri mode target)) = some (SaysRelationship (meant s id) (meant s iri) (mode_number mode) (meant s target))
of_entered s None = none

abbrev pub EnteredWithin : List ℕ → Entered → Type 0
EnteredWithin s (Typed default key media) = ValueWithin s key × ValueWithin s media
EnteredWithin s (Related id iri mode target) = ValueWithin s id × ValueWithin s iri × ValueWithin s target

pub record Entering (s : List ℕ) (e : Option Entry) (r : Optional Entered) : Type 0 where
  pub within : IfSome r (EnteredWithin s)
  pub is : of_entered s r ≡ e

-- the entries that attributes make
abbrev pub value_among : List ℕ → List Attribute → Option (List ℕ)
value_among name xs = value_in (attribute_named name xs)

abbrev pub typed_entry : Bool → List ℕ → List Attribute → Option Entry
typed_entry default wanted xs = of_two (says_typed default) (length (own xs)) (value_among wanted xs) (value_among (ascii "ContentType") xs)

abbrev pub related_entry : List Attribute → Option Entry
related_entry xs =
    of_three (λ (id type target : List ℕ). SaysRelationship id type (mode_of (value_among (ascii "TargetMode") xs)) target)
    (eqb (length (own xs)) (3 + given (value_among (ascii "TargetMode") xs)))
    (value_among (ascii "Id") xs) (value_among (ascii "Type") xs) (value_among (ascii "Target") xs)

-- a tag by its places: its name from `at` to `end`, and the attributes behind it
abbrev pub tag_in : List ℕ → ℕ → ℕ → ℕ → Bool → Tag
tag_in s at end count empty = record { name = part at (end - at) s; attributes = attributes_at count (drop end s); empty = empty }

pub record EntryAt (kind : Kind) (s : List ℕ) (at end count : ℕ) (r : Optional Entered) : Type 0 where
  pub within : IfSome r (EnteredWithin s)
  pub is : (empty : Bool) → of_entered s r ≡ entry_of kind (tag_in s at end count empty)

pub record RootAt (kind : Kind) (s : List ℕ) (at end count : ℕ) (r : Bool) : Type 0 where
  pub is : (empty : Bool) → r ≡ is_root kind (tag_in s at end count empty)
