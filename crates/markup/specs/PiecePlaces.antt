-- What the answers of the code tell of the entries of a stream s, by their places.
-- Assumes nothing.
use Rattle.std.specs.Prelude.{ℕ, ◌+◌, ◌≤◌, ◌<◌, ◌≡◌, Bool, true, false, List, [], length, drop, Result, Ok, Err, IfOk, MatchResult}
use Rattle.std.proofs.Math.Option.{Option, none, some}
use Rattle.markup.specs.Marks.{malformed}
use Rattle.markup.specs.Tags.{Started, Begun, NoTag, start_tag}
use Rattle.markup.specs.Entries.{Entry, entry_of}
use Rattle.markup.specs.Streams.{Said, Says, Unread, with_entry, entry_held, entries_in}
use Rattle.markup.specs.Walks.{Reached, number, Walk, Within, of_walk}
use Rattle.markup.specs.EntryPlaces.{tag_in}
use Rattle.markup.specs.StreamPlaces.{RefusedBy}
use Rattle.markup.specs.declared.marks.Fault.{Fault}
use Rattle.markup.specs.declared.entries.Kind.{Kind}
use Rattle.markup.specs.declared.pieces.Piece.{Piece}
use Rattle.markup.specs.declared.pieces.Piece.TheVariants.{Entered, Done}

-- what follows the start tag of an entry
pub record HeldAt (s : List ℕ) (at end next : ℕ) (empty : Bool) (r : Walk) : Type 0 where
  pub within : Within s next r
  pub is : (count : ℕ) → of_walk s r ≡ entry_held (tag_in s at end count empty) (drop next s)

-- the entry whose tag's name begins at p
abbrev pub started_entry : Kind → Started → Option Entry
started_entry K (Begun t s) = entry_of K t
started_entry K NoTag = none

abbrev pub entry_in : Kind → List ℕ → ℕ → Option Entry
entry_in K s p = started_entry K (start_tag (drop p s))

abbrev pub is_entry : Option Entry → Bool
is_entry none = false
is_entry (some e) = true

abbrev pub enter : Option Entry → Said → Said
enter none d = Unread malformed
enter (some e) d = with_entry e d

-- f reads on behind the entry
abbrev pub of_piece : Kind → List ℕ → (List ℕ → Said) → Result Piece Fault → Said
of_piece K s f (Ok (Entered p next)) = enter (entry_in K s p) (f (drop next s))
of_piece K s f (Ok (Done n)) = Says [] (drop n s)
of_piece K s f (Err g) = Unread (number g)

abbrev pub PieceWithin : Kind → List ℕ → ℕ → Piece → Type 0
PieceWithin K s at (Entered p next) = (at < next) × (p ≤ next) × (next ≤ length s) × (is_entry (entry_in K s p) ≡ true)
PieceWithin K s at (Done n) = Reached s at n

-- reading from `at` on says g f, whatever f reads on
pub record PieceAt (K : Kind) (s : List ℕ) (at : ℕ) (g : (List ℕ → Said) → Said) (r : Result Piece Fault) : Type 0 where
  pub within : IfOk r (PieceWithin K s at)
  pub is : (f : List ℕ → Said) → of_piece K s f r ≡ g f

-- the content says d: an entry and what remains behind it, bounded by calls; or its end
pub record EnteredThen (K : Kind) (s : List ℕ) (p next : ℕ) (d : Said) : Type 0 where
  pub calls : ℕ
  pub enough : length s ≤ next + calls
  pub is : d ≡ enter (entry_in K s p) (entries_in K calls (drop next s))

abbrev pub EntryNextOf : Kind → List ℕ → Said → Piece → Type 0
EntryNextOf K s d (Entered p next) = EnteredThen K s p next d
EntryNextOf K s d (Done n) = d ≡ Says [] (drop n s)

-- whatever bounds the entries, if it is as much as the bytes that remain
pub record EntryNextAt (K : Kind) (s : List ℕ) (at : ℕ) (r : Result Piece Fault) : Type 0 where
  pub within : IfOk r (PieceWithin K s at)
  pub is : (k : ℕ) → length s ≤ at + k → MatchResult r (EntryNextOf K s (entries_in K k (drop at s))) (RefusedBy (entries_in K k (drop at s)))
