-- What the form of a stream s tells: whether it is accepted, how many entries it says, and where the first of them stand.
-- Assumes nothing.
use Rattle.std.specs.Prelude.{ℕ, ◌+◌, ◌≤◌, ◌≡◌, cond, List, [], map, ltb, length, take, drop, set, Result, IfOk, MatchResult}
use Rattle.std.proofs.Math.Option.{some}
use Rattle.markup.specs.Entries.{Entry}
use Rattle.markup.specs.Streams.{Said, Says, entries_in, said, entries_of}
use Rattle.markup.specs.Walks.{Reached}
use Rattle.markup.specs.StreamPlaces.{RefusedBy}
use Rattle.markup.specs.PiecePlaces.{entry_in}
use Rattle.markup.specs.declared.marks.Fault.{Fault}
use Rattle.markup.specs.declared.entries.Kind.{Kind}
use Rattle.markup.specs.declared.forms.Run.{Run}

-- "15 a set is full": no set takes more than 256 entries, so the 257th is refused at the latest
abbrev pub place_count : ℕ
place_count = 257

abbrev pub noted : List ℕ → ℕ → ℕ → List ℕ
noted places n at = cond (ltb n place_count) (set places n at) places

-- the first places are those of the first of these entries
abbrev pub Noted : Kind → List ℕ → List ℕ → List Entry → Type 0
Noted K s places es = map (entry_in K s) (take (length es) places) ≡ map some (take place_count es)

-- the root's content, which begins at `at`, says d
pub record EndsAt (K : Kind) (s places : List ℕ) (d : Said) (r : Run) : Type 0 where
  pub is : d ≡ Says (entries_of d) (drop r.end s)
  pub counted : r.count ≡ length (entries_of d)
  pub noting : Noted K s places (entries_of d)

abbrev pub RunOf : Kind → List ℕ → List ℕ → Said → Result Run Fault → Type 0
RunOf K s places d r = MatchResult r (EndsAt K s places d) (RefusedBy d)

pub record RunAt (K : Kind) (s : List ℕ) (at : ℕ) (places : List ℕ) (r : Result Run Fault) : Type 0 where
  pub size : length places ≡ place_count
  pub within : IfOk r (λ x. Reached s at x.end)
  pub is : (k : ℕ) → length s ≤ at + k → RunOf K s places (entries_in K k (drop at s)) r

-- THE STREAM
pub record Accepted (K : Kind) (s places : List ℕ) (count : ℕ) : Type 0 where
  pub is : said K s ≡ Says (entries_of (said K s)) []
  pub counted : count ≡ length (entries_of (said K s))
  pub noting : Noted K s places (entries_of (said K s))

abbrev pub FormOf : Kind → List ℕ → List ℕ → Result ℕ Fault → Type 0
FormOf K s places r = MatchResult r (Accepted K s places) (RefusedBy (said K s))

pub record FormAt (K : Kind) (s places : List ℕ) (r : Result ℕ Fault) : Type 0 where
  pub size : length places ≡ place_count
  pub is : FormOf K s places r
