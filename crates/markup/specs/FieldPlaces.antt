-- What the fields of an entry tell, that were decoded into arrays.
-- Assumes nothing.
use Rattle.std.specs.Prelude.{ℕ, ◌≤◌, ◌≡◌, List, length, take, Some, None, IfSome}
use Rattle.std.specs.Prelude.{Option as Optional}
use Rattle.std.proofs.Math.Option.{Option, none, some}
use Rattle.markup.specs.Entries.{Entry, SaysDefault, SaysOverride, SaysRelationship}
use Rattle.markup.specs.EntryPlaces.{field_size, mode_number, says_typed}
use Rattle.markup.specs.PiecePlaces.{entry_in}
use Rattle.markup.specs.declared.entries.Kind.TheVariants.{Types, Relationships}
use Rattle.markup.specs.declared.fields.TypedFields.{TypedFields}
use Rattle.markup.specs.declared.fields.RelatedFields.{RelatedFields}

-- the bytes of a text that an array takes
abbrev pub short : List ℕ → List ℕ
short v = take field_size v

-- DEFAULTS AND OVERRIDES: the entry that the arrays hold,
abbrev pub typed_in : List ℕ → List ℕ → Optional TypedFields → Option Entry
typed_in key media (Some f) = some (says_typed f.default (take f.key key) (take f.media media))
typed_in key media None = none

-- and what it is of the entry that is said
abbrev pub short_typed : Option Entry → Option Entry
short_typed none = none
short_typed (some (SaysDefault extension type)) = some (SaysDefault (short extension) (short type))
short_typed (some (SaysOverride name type)) = some (SaysOverride (short name) (short type))
short_typed (some (SaysRelationship id type mode target)) = none

abbrev pub TypedFits : TypedFields → Type 0
TypedFits f = (f.key ≤ field_size) × (f.media ≤ field_size)

pub record TypedAt (s : List ℕ) (at : ℕ) (key media : List ℕ) (r : Optional TypedFields) : Type 0 where
  pub sizes : (length key ≡ field_size) × (length media ≡ field_size)
  pub fits : IfSome r TypedFits
  pub is : typed_in key media r ≡ short_typed (entry_in Types s at)

-- RELATIONSHIPS, in the same way
abbrev pub related_in : List ℕ → List ℕ → List ℕ → Optional RelatedFields → Option Entry
related_in id iri target (Some f) = some (SaysRelationship (take f.id id) (take f.iri iri) (mode_number f.mode) (take f.target target))
related_in id iri target None = none

abbrev pub short_related : Option Entry → Option Entry
short_related none = none
short_related (some (SaysDefault extension type)) = none
short_related (some (SaysOverride name type)) = none
short_related (some (SaysRelationship id type mode target)) = some (SaysRelationship (short id) (short type) mode (short target))

abbrev pub RelatedFits : RelatedFields → Type 0
RelatedFits f = (f.id ≤ field_size) × (f.iri ≤ field_size) × (f.target ≤ field_size)

pub record RelatedAt (s : List ℕ) (at : ℕ) (id iri target : List ℕ) (r : Optional RelatedFields) : Type 0 where
  pub sizes : (length id ≡ field_size) × (length iri ≡ field_size) × (length target ≡ field_size)
  pub fits : IfSome r RelatedFits
  pub is : related_in id iri target r ≡ short_related (entry_in Relationships s at)
