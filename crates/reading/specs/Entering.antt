-- The entries of a stream at their places, and what the package holds when they are put in. These are promises of inner functions.
-- Assumes nothing.
use Rattle.std.specs.Prelude.{ℕ, ◌≡◌, List, [], ◌∷◌, min, length, take}
use Rattle.std.proofs.Math.Option.{Option, none, some}
use Rattle.output.specs.Answers.{Answer}
use Rattle.markup.specs.Entries.{Entry}
use Rattle.markup.specs.Streams.{said, entries_of}
use Rattle.markup.specs.PiecePlaces.{entry_in}
use Rattle.markup.specs.FormPlaces.{place_count, Accepted}
use Rattle.markup.specs.declared.entries.Kind.{Kind}
use Rattle.markup.specs.declared.entries.Kind.TheVariants.{Types, Relationships}
use Rattle.model.specs.Sets.{Bytes}
use Rattle.model.specs.Package.{State}
use Rattle.model.specs.Reading.{Entered, types_said, relationships_said, entry_refusal, entry_made, entries_refusal, entries_made}
use Rattle.model.specs.Calls.{Numbered, changed}
use Rattle.contract.specs.Holds.{Holds}
use Rattle.reading.specs.Judging.{fields_of}

-- AT A PLACE: the entry of the tag there, or none
abbrev pub one_of : Option Entry → List Entry
one_of none = []
one_of (some e) = e ∷ []

abbrev pub typed_at : Bytes → ℕ → List Entered
typed_at s at = types_said (one_of (entry_in Types s at))

abbrev pub related_at : Bytes → Bytes → ℕ → List Entered
related_at source s at = relationships_said source (one_of (entry_in Relationships s at))

-- the first entries of a stream: no package takes more
abbrev pub typed_first : Bytes → List Entered
typed_first s = types_said (take place_count (entries_of (said Types s)))

abbrev pub related_first : Bytes → Bytes → List Entered
related_first source s = relationships_said source (take place_count (entries_of (said Relationships s)))

-- these are the places that were noted in an array for an accepted stream of so many entries
pub record Placed (K : Kind) (s places : List ℕ) : Type 0 where
  pub array : List ℕ
  pub size : length array ≡ place_count
  pub count : ℕ
  pub accepted : Accepted K s array count
  pub is : places ≡ take (min count place_count) array

-- PUT IN. The fields of the entry, if there is one, are accepted
abbrev pub FieldedAt : List Entered → Type 0
FieldedAt es = (e : Entered) → es ≡ e ∷ [] → fields_of e ≡ 0

-- it is put in where no refusal is met
pub record Added (es : List Entered) (p q : List ℕ) : Type 0 where
  pub is : (e : Entered) → es ≡ e ∷ [] → (S : State) → Holds p S → entry_refusal S e ≡ 0 → Holds q (entry_made S e)

-- and so are all of them
pub record AddedAll (es : List Entered) (p q : List ℕ) : Type 0 where
  pub is : (S : State) → Holds p S → entries_refusal S es ≡ 0 → Holds q (entries_made S es)

-- ALL OR NONE: a is the answer, and q the bytes after it
pub record TookAll (es : List Entered) (p : List ℕ) (a : Answer) (q : List ℕ) : Type 0 where
  pub kept : (a.number ≡ 0 → ⊥) → (q ≡ p) × (a.output ≡ [])
  pub numbered : Numbered a.number
  pub ledger : (S : State) → Holds p S →
      (a ≡ (changed (entries_refusal S es) S (entries_made S es)).0) × Holds q (changed (entries_refusal S es) S (entries_made S es)).1
