-- Attributes and tags (request 5 of document 02).
-- Assumes nothing.
use Rattle.std.specs.Prelude.{ℕ, zero, suc, ◌+◌, Bool, true, false, not, ◌&&◌, cond, List, [], ◌∷◌, ◌++◌, eqb, length, get_or, take, drop}
use Rattle.std.proofs.Math.Option.{Option, none, some}
use Rattle.chars.specs.Bytes.{ascii}
use Rattle.chars.specs.Lists.{same, begins, index_of, lacks}
use Rattle.markup.specs.Marks.{Outcome, and_then, expected, blank, after_blanks, less, name_first, name_at, after_name, prefixed}
use Rattle.markup.specs.Marks.{quote_mark, quotable, unquoted}

-- ATTRIBUTES: a name, and the bytes that its value means
pub record Attribute : Type 0 where
  pub name : List ℕ
  pub value : List ℕ

pub data Attributed : Type 0 where
  Has : (attribute : Attribute) (rest : List ℕ) → Attributed
  HasNot : Attributed

abbrev pub has : Bool → List ℕ → List ℕ → List ℕ → Attributed
has true name raw rest = Has (record { name = name; value = unquoted 0 raw }) rest
has false name raw rest = HasNot

-- s begins behind the opening quote mark q; "either quote mark": the value ends at the next one of the same kind
abbrev pub valued : List ℕ → ℕ → List ℕ → Attributed
valued name q s = has (quote_mark q && not (lacks q s) && quotable (take (index_of q s) s)) name (take (index_of q s) s) (drop (index_of q s + 1) s)

-- s begins behind the name, its blanks passed over: `=`, blanks, the value
abbrev pub equated : List ℕ → Bool → List ℕ → Attributed
equated name false s = HasNot
equated name true s = valued name (get_or (after_blanks (drop 1 s)) 0 0) (drop 1 (after_blanks (drop 1 s)))

-- "blanks .. as XML 1.0 allows them in and around tags": also on both sides of the `=`
unfoldable pub attribute_at : List ℕ → Attributed
attribute_at s = equated (name_at s) (name_first (get_or s 0 0) && begins (ascii "=") (after_blanks (after_name s))) (after_blanks (after_name s))

-- blanks part an attribute from what stands before it
unfoldable pub next_attribute : List ℕ → Attributed
next_attribute s = cond (blank (get_or s 0 0)) (attribute_at (after_blanks s)) HasNot

-- the attributes that stand there one after the other, at most k of them, and what remains behind them
abbrev pub with_attribute : (List ℕ → List Attribute) → Attributed → List Attribute
with_attribute f (Has a s) = a ∷ f s
with_attribute f HasNot = []

unfoldable pub attributes_at : ℕ → List ℕ → List Attribute
attributes_at zero s = []
attributes_at (suc k) s = with_attribute (λ (t : List ℕ). attributes_at k t) (next_attribute s)

abbrev pub behind_attribute : (List ℕ → List ℕ) → List ℕ → Attributed → List ℕ
behind_attribute f s (Has a t) = f t
behind_attribute f s HasNot = s

unfoldable pub after_attributes : ℕ → List ℕ → List ℕ
after_attributes zero s = s
after_attributes (suc k) s = behind_attribute (λ (t : List ℕ). after_attributes k t) s (next_attribute s)

-- the attribute of this name
unfoldable pub attribute_named : List ℕ → List Attribute → Option Attribute
attribute_named name [] = none
attribute_named name (a ∷ xs) = cond (same a.name name) (some a) (attribute_named name xs)

abbrev pub is_there : Option Attribute → Bool
is_there none = false
is_there (some a) = true

abbrev pub named : List ℕ → List Attribute → Bool
named name xs = is_there (attribute_named name xs)

-- "and a repeated one anywhere" is malformed: no two are of one name
unfoldable pub distinct : List Attribute → Bool
distinct [] = true
distinct (a ∷ xs) = not (named a.name xs) && distinct xs

-- "`xmlns:` declarations and prefixed attributes are passed over too": those that count
unfoldable pub own : List Attribute → List Attribute
own [] = []
own (a ∷ xs) = cond (prefixed a.name) (own xs) (a ∷ own xs)

-- TAGS
pub record Tag : Type 0 where
  pub name : List ℕ
  pub attributes : List Attribute
  -- it is an empty tag, which ends in `/>`
  pub empty : Bool

pub data Started : Type 0 where
  Begun : (tag : Tag) (rest : List ℕ) → Started
  NoTag : Started

abbrev pub begun : List ℕ → List Attribute → Bool → List ℕ → Started
begun name xs empty rest = Begun (record { name = name; attributes = xs; empty = empty }) rest

-- s is what stands behind the attributes and blanks
abbrev pub closing : List ℕ → List Attribute → List ℕ → Started
closing name xs s =
    cond (begins (ascii "/>") s) (begun name xs true (drop 2 s))
    (cond (begins (ascii ">") s) (begun name xs false (drop 1 s)) NoTag)

-- s begins behind the name. There are at most as many attributes as bytes
abbrev pub start_after : List ℕ → List ℕ → Started
start_after name s = cond (distinct (attributes_at (length s) s)) (closing name (attributes_at (length s) s) (after_blanks (after_attributes (length s) s))) NoTag

-- s begins behind the `<` of a start tag
unfoldable pub start_tag : List ℕ → Started
start_tag s = cond (name_first (get_or s 0 0)) (start_after (name_at s) (after_name s)) NoTag

-- "checked for matching tags": the end tag of an element of this name, perhaps with blanks before its `>`
unfoldable pub end_tag : List ℕ → List ℕ → Outcome
end_tag name s = and_then (expected (ascii "</" ++ name) s) (λ (t : List ℕ). expected (ascii ">") (after_blanks t))

-- "a start tag .. (`<` and a name's first byte)"
abbrev pub opens : List ℕ → Bool
opens s = eqb (get_or s 0 0) less && name_first (get_or s 1 0)
