-- What the answers of the code tell of a stream s: its root, and what stands next in the root's content, by their places.
-- Assumes nothing.
use Rattle.std.specs.Prelude.{ℕ, ◌+◌, ◌-◌, ◌≤◌, ◌<◌, ◌≡◌, false, List, [], length, drop, ⊤, Result, Ok, Err, IfOk, MatchResult}
use Rattle.base.specs.Buffer.{part}
use Rattle.markup.specs.Marks.{Outcome, name_at, prefixed}
use Rattle.markup.specs.Tags.{start_tag, opens}
use Rattle.markup.specs.Elements.{between}
use Rattle.markup.specs.Entries.{Entry}
use Rattle.markup.specs.Streams.{Said, Says, Unread, where_on, choose, passed, entry_then, entries_in, ended, closed_root}
use Rattle.markup.specs.Walks.{Reached, number}
use Rattle.markup.specs.declared.marks.Fault.{Fault}
use Rattle.markup.specs.declared.entries.Kind.{Kind}
use Rattle.markup.specs.declared.streams.Root.{Root}
use Rattle.markup.specs.declared.streams.Root.TheVariants.{Holds, Empty}
use Rattle.markup.specs.declared.streams.Step.{Step}
use Rattle.markup.specs.declared.streams.Step.TheVariants.{Unprefixed, Passed, Over}
use Rattle.markup.specs.declared.streams.Next.{Next}
use Rattle.markup.specs.declared.streams.Next.TheVariants.{Tag, End}

-- d is a refusal
abbrev pub RefusedBy : Said → Fault → Type 0
RefusedBy d f = d ≡ Unread (number f)

-- THE ROOT
abbrev pub of_root : Kind → List ℕ → Result Root Fault → Said
of_root K s (Ok (Holds name end next)) = closed_root (part name (end - name) s) (entries_in K (length (drop next s)) (drop next s))
of_root K s (Ok (Empty next)) = ended [] (between false (drop next s))
of_root K s (Err f) = Unread (number f)

abbrev pub RootWithin : List ℕ → Root → Type 0
RootWithin s (Holds name end next) = Reached s name end × (next ≤ length s)
RootWithin s (Empty next) = next ≤ length s

-- the root's tag says d
pub record Rooted (K : Kind) (s : List ℕ) (d : Said) (r : Result Root Fault) : Type 0 where
  pub within : IfOk r (RootWithin s)
  pub is : of_root K s r ≡ d

-- WHAT STANDS NEXT in its content, s beginning with it: f reads on behind what is passed over, g reads an element without a prefix
abbrev pub next_step : List ℕ → (List ℕ → Said) → (List ℕ → Said) → Said
next_step s f g =
    where_on (between false s)
    (λ (t : List ℕ). choose (opens t) (choose (prefixed (name_at (drop 1 t))) (where_on (passed (drop 1 t)) f) (g (drop 1 t))) (Says [] t))

abbrev pub of_step : List ℕ → (List ℕ → Said) → (List ℕ → Said) → Result Step Fault → Said
of_step s f g (Ok (Unprefixed t)) = g (drop t s)
of_step s f g (Ok (Passed n)) = f (drop n s)
of_step s f g (Ok (Over n)) = Says [] (drop n s)
of_step s f g (Err h) = Unread (number h)

abbrev pub StepWithin : List ℕ → ℕ → Step → Type 0
StepWithin s at (Unprefixed t) = (at < t) × (t ≤ length s)
StepWithin s at (Passed n) = (at < n) × (n ≤ length s)
StepWithin s at (Over n) = Reached s at n

pub record PassedAt (s : List ℕ) (at : ℕ) (r : Result Step Fault) : Type 0 where
  pub within : IfOk r (StepWithin s at)
  pub is : (f g : List ℕ → Said) → of_step s f g r ≡ where_on (passed (drop at s)) f

pub record StepAt (s : List ℕ) (at : ℕ) (r : Result Step Fault) : Type 0 where
  pub within : IfOk r (StepWithin s at)
  pub is : (f g : List ℕ → Said) → of_step s f g r ≡ next_step (drop at s) f g

-- the content says d: an entry begins at t, or the content ends at n. What remains behind the entry is bounded by calls
pub record TagThen (K : Kind) (s : List ℕ) (t : ℕ) (d : Said) : Type 0 where
  pub calls : ℕ
  pub enough : length s ≤ t + calls
  pub is : d ≡ entry_then K (λ (u : List ℕ). entries_in K calls u) (start_tag (drop t s))

abbrev pub NextOf : Kind → List ℕ → Said → Next → Type 0
NextOf K s d (Tag t) = TagThen K s t d
NextOf K s d (End n) = d ≡ Says [] (drop n s)

abbrev pub NextWithin : List ℕ → ℕ → Next → Type 0
NextWithin s at (Tag t) = (at < t) × (t ≤ length s)
NextWithin s at (End n) = Reached s at n

-- whatever bounds the pieces of the content, if it is as much as the bytes that remain
pub record NextAt (s : List ℕ) (at : ℕ) (r : Result Next Fault) : Type 0 where
  pub within : IfOk r (NextWithin s at)
  pub is : (K : Kind) (k : ℕ) → length s ≤ at + k → MatchResult r (NextOf K s (entries_in K k (drop at s))) (RefusedBy (entries_in K k (drop at s)))

-- what the reader finds at a place of the stream
pub record ReadAt (s : List ℕ) (at : ℕ) (r : Result Next Fault) : Type 0 where
  pub is : at ≤ length s → NextAt s at r

-- THE END: what stands behind the root is let through, or refused
abbrev pub end_says : List Entry → Result ⊤ Fault → Said
end_says es (Ok u) = Says es []
end_says es (Err f) = Unread (number f)

pub record EndsWith (s : List ℕ) (o : Outcome) (r : Result ⊤ Fault) : Type 0 where
  pub is : (es : List Entry) → end_says es r ≡ ended es o
