-- The marks of a stream of XML, as document 02 accepts it (request 5): blanks, names, values, comments. Each is read off the bytes that remain.
-- Assumes nothing.
use Rattle.std.specs.Prelude.{ℕ, zero, suc, pred, ◌+◌, Bool, true, false, not, ◌||◌, cond, List, [], ◌∷◌, ◌++◌, eqb, length, get_or, take, drop}
use Prim.Native.Char.{code}
use Rattle.chars.specs.Bytes.{ascii, colon, underscore, one_of, letter, member}
use Rattle.chars.specs.Lists.{begins, first_not, index_of, lacks, tiled}
use Rattle.chars.specs.declared.search.Alphabet.TheVariants.{Id}

-- WHAT READING GIVES: the bytes that remain, or the number of a refusal
pub data Outcome : Type 0 where
  On : (rest : List ℕ) → Outcome
  Not : (number : ℕ) → Outcome

-- "else 19 where it isn't accepted"
abbrev pub malformed : ℕ
malformed = 19

-- "20 where all before a start tag of depth 17 .. begins an accepted stream"
abbrev pub too_deep : ℕ
too_deep = 20

abbrev pub either : Bool → Outcome → Outcome → Outcome
either true a b = a
either false a b = b

-- first this, then on the bytes that remain that
abbrev pub and_then : Outcome → (List ℕ → Outcome) → Outcome
and_then (On s) f = f s
and_then (Not n) f = Not n

-- the bytes expected next
abbrev pub expected : List ℕ → List ℕ → Outcome
expected t s = either (begins t s) (On (drop (length t) s)) (Not malformed)

-- BLANKS: "(space, tab, CR, LF)"
abbrev pub blank : ℕ → Bool
blank b = one_of (ascii " \t\r\n") b

abbrev pub after_blanks : List ℕ → List ℕ
after_blanks s = drop (first_not blank s) s

abbrev pub less : ℕ
less = code "<"

-- "text there is any bytes but `<`"
abbrev pub after_text : List ℕ → List ℕ
after_text s = drop (index_of less s) s

-- NAMES. "Names are made like ids": "letter or `_`, then letters, digits, `._-`",
abbrev pub name_first : ℕ → Bool
name_first b = letter b || eqb b underscore

-- "of any length": such a name at the start, empty if there is none
unfoldable pub id_at : List ℕ → List ℕ
id_at s = cond (name_first (get_or s 0 0)) (take (first_not (member Id) s) s) []

-- "a prefix parted off by a colon": the name behind a colon at the start
abbrev pub after_colon : List ℕ → List ℕ
after_colon s = cond (eqb (get_or s 0 0) colon) (id_at (drop 1 s)) []

abbrev pub parted : List ℕ → List ℕ → List ℕ
parted [] n = []
parted (x ∷ p) [] = x ∷ p
parted (x ∷ p) (y ∷ n) = (x ∷ p) ++ (colon ∷ y ∷ n)

-- the name at the start, with its prefix; empty if there is none
unfoldable pub name_at : List ℕ → List ℕ
name_at s = parted (id_at s) (after_colon (drop (length (id_at s)) s))

abbrev pub after_name : List ℕ → List ℕ
after_name s = drop (length (name_at s)) s

abbrev pub prefixed : List ℕ → Bool
prefixed name = not (lacks colon name)

-- VALUES. "the five named entities of XML 1.0"
pub record Entity : Type 0 where
  pub text : List ℕ
  pub byte : ℕ

abbrev pub entity : List ℕ → ℕ → Entity
entity t b = record { text = t; byte = b }

abbrev pub entities : List Entity
entities =
    entity (ascii "&lt;") (code "<")
    ∷ entity (ascii "&gt;") (code ">")
    ∷ entity (ascii "&amp;") (code "&")
    ∷ entity (ascii "&apos;") (code "'")
    ∷ entity (ascii "&quot;") (code "\"")
    ∷ []

-- the entity that s begins with; one of no bytes if it begins with none
abbrev pub entity_of : List Entity → List ℕ → Entity
entity_of [] s = entity [] 0
entity_of (e ∷ es) s = cond (begins e.text s) e (entity_of es s)

abbrev pub ampersand : ℕ
ampersand = code "&"

-- "(a value holds no `<` and no other `&`)": the length of the byte or the entity at the start of a value, 0 for neither
unfoldable pub value_unit : List ℕ → ℕ
value_unit s = cond (eqb (get_or s 0 0) less) 0 (cond (eqb (get_or s 0 0) ampersand) (length (entity_of entities s).text) 1)

-- the byte that it means
unfoldable pub value_byte : List ℕ → ℕ
value_byte s = cond (eqb (get_or s 0 0) ampersand) (entity_of entities s).byte (get_or s 0 0)

-- what stands between the quote marks is such bytes and entities, one after the other,
abbrev pub quotable : List ℕ → Bool
quotable raw = tiled value_unit 0 raw

-- and means those bytes, k bytes being passed over first
unfoldable pub unquoted : ℕ → List ℕ → List ℕ
unquoted k [] = []
unquoted (suc k) (b ∷ s) = unquoted k s
unquoted zero (b ∷ s) = value_byte (b ∷ s) ∷ unquoted (pred (value_unit (b ∷ s))) s

-- "either quote mark"
abbrev pub quote_mark : ℕ → Bool
quote_mark q = one_of (ascii "\"'") q

-- COMMENTS: where the first `--` stands; the length if nowhere
unfoldable pub dashes : List ℕ → ℕ
dashes [] = 0
dashes (b ∷ s) = let more = dashes s in cond (begins (ascii "--") (b ∷ s)) 0 (suc more)

abbrev pub comment_mark : List ℕ
comment_mark = ascii "<!--"

-- "comments .. (any bytes, the first `--` inside being that of `-->`)": s begins with the mark
unfoldable pub comment : List ℕ → Outcome
comment s = expected (ascii "-->") (drop (4 + dashes (drop 4 s)) s)
