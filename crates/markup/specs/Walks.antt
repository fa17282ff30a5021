-- What the answers of the code tell of a stream s: places in it stand for the bytes that remain from there on.
-- Assumes nothing.
use Rattle.std.specs.Prelude.{ℕ, ◌+◌, ◌-◌, ◌*◌, ◌%◌, ◌≤◌, ◌<◌, ◌≡◌, Bool, true, false, not, ◌&&◌, cond, List, [], ◌∷◌, eqb, length, get_or, drop, ⊤, Result, Ok, Err, IfOk, Some, None, IfSome}
use Rattle.std.specs.Prelude.{Option as Optional}
use Rattle.std.proofs.Math.Option.{Option, none, some}
use Rattle.base.specs.Buffer.{part}
use Rattle.chars.specs.Lists.{last_byte}
use Rattle.markup.specs.Marks.{Outcome, On, Not, malformed, too_deep, after_blanks, less, ampersand, name_at, prefixed, entities, entity_of, value_unit, unquoted}
use Rattle.markup.specs.Tags.{Attribute, Attributed, Has, HasNot, has, valued, next_attribute, attributes_at, after_attributes, distinct}
use Rattle.markup.specs.Tags.{Started, begun, NoTag, closing, start_tag}
use Rattle.markup.specs.Elements.{element, content}
use Rattle.output.specs.declared.refusals.Refusal.{Refusal}
use Rattle.output.specs.declared.refusals.Refusal.TheVariants as refusal
use Rattle.markup.specs.declared.marks.Fault.{Fault}
use Rattle.markup.specs.declared.marks.Fault.TheVariants.{Malformed, TooDeep}
use Rattle.markup.specs.declared.attributes.Span.{Span}
use Rattle.markup.specs.declared.tags.Listed.{Listed}
use Rattle.markup.specs.declared.tags.StartTag.{StartTag}

-- a place in s that is reached from `at`
abbrev pub Reached : List ℕ → ℕ → ℕ → Type 0
Reached s at n = (at ≤ n) × (n ≤ length s)

-- the number of a refusal
abbrev pub number : Fault → ℕ
number Malformed = malformed
number TooDeep = too_deep

-- and the refusal of a call that reads the stream
abbrev pub refusal_of : Fault → Refusal
refusal_of Malformed = refusal.MalformedStream
refusal_of TooDeep = refusal.TooDeep

-- how far reading has got, or why it is refused
abbrev pub Walk : Type 0
Walk = Result ℕ Fault

abbrev pub of_walk : List ℕ → Walk → Outcome
of_walk s (Ok n) = On (drop n s)
of_walk s (Err f) = Not (number f)

abbrev pub Within : List ℕ → ℕ → Walk → Type 0
Within s at r = IfOk r (Reached s at)

-- reading from `at` on gives the outcome o
pub record Walked (s : List ℕ) (at : ℕ) (o : Outcome) (r : Walk) : Type 0 where
  pub within : Within s at r
  pub is : of_walk s r ≡ o

-- element and content, whatever bounds the calls, if it is as much as the bytes that remain
pub record WalkedElement (s : List ℕ) (at left : ℕ) (r : Walk) : Type 0 where
  pub within : Within s (at + 1) r
  pub is : (k : ℕ) → length s ≤ at + k → of_walk s r ≡ element k left (drop at s)

pub record WalkedContent (s : List ℕ) (at left : ℕ) (text : Bool) (r : Walk) : Type 0 where
  pub within : Within s at r
  pub is : (k : ℕ) → length s ≤ at + k → of_walk s r ≡ content k left text (drop at s)

-- a byte that may stand in a value and is no entity's first
abbrev pub plain : ℕ → Bool
plain b = not (eqb b less) && not (eqb b ampersand)

-- an entity stands at i, takes n bytes and means b; or none does
abbrev pub EntityIs : List ℕ → ℕ → ℕ → ℕ → Type 0
EntityIs s i n b = (0 < n) × (n ≡ length (entity_of entities (drop i s)).text) × (b ≡ (entity_of entities (drop i s)).byte) × (i + n ≤ length s)

abbrev pub NoEntity : List ℕ → ℕ → Type 0
NoEntity s i = length (entity_of entities (drop i s)).text ≡ 0

-- what may stand at i in a value takes n bytes
abbrev pub UnitIs : List ℕ → ℕ → ℕ → Type 0
UnitIs s i n = (0 < n) × (n ≡ value_unit (drop i s)) × (i + n ≤ length s)

-- the value whose quote mark stands at q ends at e, if there is one
abbrev pub ended_at : List ℕ → ℕ → List ℕ → Optional ℕ → Attributed
ended_at s q name (Some e) = has true name (part (q + 1) (e - (q + 1)) s) (drop (e + 1) s)
ended_at s q name None = HasNot

pub record ValueEnd (s : List ℕ) (q : ℕ) (r : Optional ℕ) : Type 0 where
  pub within : IfSome r (λ e. (q < e) × (e < length s))
  pub is : (name : List ℕ) → valued name (get_or (drop q s) 0 0) (drop 1 (drop q s)) ≡ ended_at s q name r

-- ATTRIBUTES: name and value by their places
abbrev pub attribute_in : List ℕ → Span → Attribute
attribute_in s a = record { name = part a.name (a.name_end - a.name) s; value = unquoted 0 (part a.from (a.to - a.from) s) }

abbrev pub of_span : List ℕ → Optional Span → Attributed
of_span s (Some a) = Has (attribute_in s a) (drop a.next s)
of_span s None = HasNot

-- it goes on, and the places stand in their order
abbrev pub SpanWithin : List ℕ → ℕ → Span → Type 0
SpanWithin s at a = (at ≤ a.name) × (a.name < a.name_end) × (a.name_end < a.from) × (a.from ≤ a.to) × (a.to < a.next) × (a.next ≤ length s)

pub record Spanned (s : List ℕ) (at : ℕ) (a : Attributed) (r : Optional Span) : Type 0 where
  pub within : IfSome r (SpanWithin s at)
  pub is : of_span s r ≡ a

-- the attribute that was looked for
abbrev pub found_in : List ℕ → Optional Span → Option Attribute
found_in s (Some a) = some (attribute_in s a)
found_in s None = none

pub record Sought (s : List ℕ) (at : ℕ) (a : Option Attribute) (r : Optional Span) : Type 0 where
  pub within : IfSome r (SpanWithin s at)
  pub is : found_in s r ≡ a

-- NAMES THAT WERE MET leave a mark in an array of 64, each at a place that its first byte, its last and its length tell: a name without a mark is new
abbrev pub mark_of : List ℕ → ℕ
mark_of name = (get_or name 0 0 * 5 + last_byte name * 3 + length name % 64 * 11) % 64

abbrev pub Marked : List Bool → List Attribute → Type 0
Marked marks [] = Unit {0}
Marked marks (a ∷ xs) = (get_or marks (mark_of a.name) false ≡ true) × Marked marks xs

-- the attributes of a tag whose name ends at `at`
pub record AllListed (s : List ℕ) (at count end : ℕ) : Type 0 where
  pub within : (at + count ≤ end) × (end ≤ length s)
  pub distinctly : distinct (attributes_at count (drop at s)) ≡ true
  pub rest : after_attributes count (drop at s) ≡ drop end s
  pub none : next_attribute (drop end s) ≡ HasNot

-- and what stands behind them and blanks
pub record TagListed (s : List ℕ) (at count next : ℕ) : Type 0 where
  pub end : ℕ
  pub listed : AllListed s at count end
  pub within : (end ≤ next) × (next ≤ length s)
  pub behind : drop next s ≡ after_blanks (drop end s)

abbrev pub ListedAt : List ℕ → ℕ → Optional Listed → Type 0
ListedAt s at (Some l) = TagListed s at l.count l.next
ListedAt s at None = distinct (attributes_at (length (drop at s)) (drop at s)) ≡ false

-- START TAGS: the end of the name, how many attributes there are, and what follows
abbrev pub of_tagged : List ℕ → ℕ → Optional StartTag → Started
of_tagged s at (Some t) = begun (part at (t.name_end - at) s) (attributes_at t.count (drop t.name_end s)) t.empty (drop t.next s)
of_tagged s at None = NoTag

abbrev pub TagWithin : List ℕ → ℕ → StartTag → Type 0
TagWithin s at t = (at < t.name_end) × (t.name_end < t.next) × (t.next ≤ length s)

pub record TagAt (s : List ℕ) (at : ℕ) (r : Optional StartTag) : Type 0 where
  pub within : IfSome r (TagWithin s at)
  pub is : of_tagged s at r ≡ start_tag (drop at s)

-- the end of a tag, the name and the attributes being known
abbrev pub EndWithin : List ℕ → ℕ → ℕ → ℕ → StartTag → Type 0
EndWithin s name_end count at t = (t.name_end ≡ name_end) × (t.count ≡ count) × (at < t.next) × (t.next ≤ length s)

pub record EndAt (s : List ℕ) (name_end count at : ℕ) (r : Optional StartTag) : Type 0 where
  pub within : IfSome r (EndWithin s name_end count at)
  pub is : (from : ℕ) → of_tagged s from r ≡ closing (part from (name_end - from) s) (attributes_at count (drop name_end s)) (drop at s)

-- ELEMENTS. What refuses a start tag whose name s begins with, if anything does
abbrev pub stops : ℕ → Bool → List ℕ → Result ⊤ Fault
stops left text s = cond (eqb left 0) (Err TooDeep) (cond (not text && not (prefixed (name_at s))) (Err Malformed) (Ok tt))
