-- Elements and content (request 5 of document 02): "An element holds content, and content holds elements, so elements of prefixed names are checked for
-- matching tags down to depth 16, the root being depth 1, and passed over with all they hold".
-- Assumes nothing.
use Rattle.std.specs.Prelude.{ℕ, zero, suc, ◌-◌, Bool, true, not, ◌&&◌, cond, List, eqb, length, drop}
use Rattle.chars.specs.Lists.{begins}
use Rattle.markup.specs.Marks.{Outcome, On, Not, malformed, too_deep, either, and_then, after_blanks, after_text, name_at, prefixed, comment_mark, comment}
use Rattle.markup.specs.Tags.{Tag, Started, Begun, NoTag, start_tag, end_tag, opens}

-- BETWEEN TAGS stand "comments between tags or around the root", and blanks, or any text inside an element that is passed over
abbrev pub after_gap : Bool → List ℕ → List ℕ
after_gap text s = cond text (after_text s) (after_blanks s)

abbrev pub comment_then : (List ℕ → Outcome) → List ℕ → Outcome
comment_then f s = either (begins comment_mark s) (and_then (comment s) f) (On s)

-- k bounds the comments
unfoldable pub gaps : ℕ → Bool → List ℕ → Outcome
gaps zero text s = On s
gaps (suc k) text s = comment_then (λ (t : List ℕ). gaps k text t) (after_gap text s)

-- there are at most as many as bytes
abbrev pub between : Bool → List ℕ → Outcome
between text s = gaps (length s) text s

-- "down to depth 16, the root being depth 1"
abbrev pub deepest : ℕ
deepest = 16

-- what follows an element's start tag: nothing, or what it holds and the end tag of its name
abbrev pub held : Tag → (List ℕ → Outcome) → List ℕ → Outcome
held t inside s = either t.empty (On s) (and_then (inside s) (end_tag t.name))

abbrev pub element_of : (List ℕ → Outcome) → Started → Outcome
element_of inside (Begun t s) = held t inside s
element_of inside NoTag = Not malformed

-- behind the `<` of a start tag, left being how many depths there are from here on: none is "a start tag of depth 17". Inside an entry's pair of tags stand
-- elements of prefixed names alone ("Elsewhere an element that document 01 doesn't write in that place is malformed")
abbrev pub nested : (List ℕ → Outcome) → ℕ → Bool → List ℕ → Outcome
nested inner left text s = either (eqb left 0) (Not too_deep) (either (not text && not (prefixed (name_at s))) (Not malformed) (inner s))

-- an element and what follows it, or the end of the content
abbrev pub goes_on : (List ℕ → Outcome) → (List ℕ → Outcome) → ℕ → Bool → List ℕ → Outcome
goes_on inner more left text s = either (opens s) (and_then (nested inner left text (drop 1 s)) more) (On s)

-- An element, from behind its `<` on, and content: both give what remains behind them (content ends where no start tag stands: an end tag must follow, which
-- its element reads). k bounds the calls: as many as there are bytes always suffice. Text is let through inside an element that is passed over, blanks
-- alone inside an entry
unfoldable mutual
  pub element : ℕ → ℕ → List ℕ → Outcome
  element zero left s = Not malformed
  element (suc k) left s = element_of (λ (t : List ℕ). content k left true t) (start_tag s)

  pub content : ℕ → ℕ → Bool → List ℕ → Outcome
  content zero left text s = On s
  content (suc k) left text s =
      and_then (between text s) (goes_on (λ (t : List ℕ). element k (left - 1) t) (λ (t : List ℕ). content k left text t) left text)
