-- The units that segments and IRIs are made of: a byte that stands for itself, a triplet, a character of ucschar in UTF-8.
-- Assumes nothing.
use Rattle.std.specs.Prelude.{ℕ, ◌+◌, ◌*◌, ◌%◌, Bool, not, ◌&&◌, ◌||◌, cond, List, leb, eqb, get_or}
use Rattle.chars.specs.declared.units.Grammar.{Grammar}
use Rattle.chars.specs.declared.units.Grammar.TheVariants.{Segment, Iri}
use Rattle.chars.specs.Bytes.{ascii, percent, within, one_of, hex_digit, hex_value, unreserved, segment_byte, continuation, lead2, lead3, lead4}

-- "RFC 3987 ucschar: U+00A0–D7FF, F900–FDCF, FDF0–FFEF, planes 1 to 13 from n0000 to nFFFD, E1000–EFFFD"
unfoldable pub ucschar : ℕ → Bool
ucschar v =
    within 0xA0 0xD7FF v || within 0xF900 0xFDCF v || within 0xFDF0 0xFFEF v
    || within 0x10000 0xDFFFD v && leb (v % 0x10000) 0xFFFD || within 0xE1000 0xEFFFD v

-- the character that two, three, four bytes of UTF-8 stand for: the low bits of the first byte, and six of each other
abbrev pub code2 : ℕ → ℕ → ℕ
code2 a b = a % 32 * 64 + b % 64

abbrev pub code3 : ℕ → ℕ → ℕ → ℕ
code3 a b c = a % 16 * 4096 + b % 64 * 64 + c % 64

abbrev pub code4 : ℕ → ℕ → ℕ → ℕ → ℕ
code4 a b c d = a % 8 * 262144 + b % 64 * 4096 + c % 64 * 64 + d % 64

-- a well-formed character of ucschar, in its shortest form (two bytes are never too long: ucschar begins at A0)
unfoldable pub char2 : ℕ → ℕ → Bool
char2 a b = lead2 a && continuation b && ucschar (code2 a b)

unfoldable pub char3 : ℕ → ℕ → ℕ → Bool
char3 a b c = lead3 a && continuation b && continuation c && leb 0x800 (code3 a b c) && ucschar (code3 a b c)

unfoldable pub char4 : ℕ → ℕ → ℕ → ℕ → Bool
char4 a b c d = lead4 a && continuation b && continuation c && continuation d && leb 0x10000 (code4 a b c d) && ucschar (code4 a b c d)

-- what the two digits of a triplet stand for
abbrev pub stands : ℕ → ℕ → ℕ
stands b c = 16 * hex_value b + hex_value c

-- the triplet rule of names: "no triplet is %2F or %5C or stands for an ASCII letter, digit or `-._~`; triplets are judged one at a time"
unfoldable pub name_triplet : ℕ → ℕ → Bool
name_triplet b c = hex_digit b && hex_digit c && not (eqb (stands b c) 0x2F) && not (eqb (stands b c) 0x5C) && not (unreserved (stands b c))

-- one byte that is a unit: in a segment; in an IRI also "`/`, `?` and .. `#`"
abbrev pub single : Grammar → ℕ → Bool
single Segment b = segment_byte b
single Iri b = segment_byte b || one_of (ascii "/?#") b

-- two digits that may follow %: by the triplet rule in a segment; "any triplet" in an IRI
abbrev pub triplet : Grammar → ℕ → ℕ → Bool
triplet Segment b c = name_triplet b c
triplet Iri b c = hex_digit b && hex_digit c

-- how many bytes the unit has that begins with a b c d and is no single byte; 0 if none does
unfoldable pub long_unit : Grammar → ℕ → ℕ → ℕ → ℕ → ℕ
long_unit g a b c d =
    cond (eqb a percent && triplet g b c) 3
    (cond (char2 a b) 2
    (cond (char3 a b c) 3
    (cond (char4 a b c d) 4
    0)))

-- the length of the unit at the start of s, 0 for none. Past the end of s stands 0, which no unit holds
unfoldable pub unit : Grammar → List ℕ → ℕ
unit g s = cond (single g (get_or s 0 0)) 1 (long_unit g (get_or s 0 0) (get_or s 1 0) (get_or s 2 0) (get_or s 3 0))
