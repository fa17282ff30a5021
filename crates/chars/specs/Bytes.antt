-- Bytes, their names and the classes that the grammars put them in. A byte is a number below 256, and every test computes.
-- Assumes nothing.
use Rattle.std.specs.Prelude.{ℕ, ◌+◌, ◌*◌, ◌/◌, ◌%◌, Bool, false, ◌&&◌, ◌||◌, List, [], ◌∷◌, map, ◌≡◌, refl, leb, eqb}
use Prim.Native.Char.{code}
use Prim.Native.String.{String, [] as ε, ◌∷◌ as ◌◂◌}
use Rattle.chars.specs.declared.search.Alphabet.{Alphabet}
use Rattle.chars.specs.declared.search.Alphabet.TheVariants.{Token, Scheme, Id, SchemeEnd, AuthorityEnd, PathEnd}

-- the bytes of an ASCII text
abbrev pub ascii : String → List ℕ
ascii ε = []
ascii (c ◂ s) = code c ∷ ascii s

abbrev pub slash : ℕ
slash = code "/"

abbrev pub dot : ℕ
dot = code "."

abbrev pub percent : ℕ
percent = code "%"

abbrev pub colon : ℕ
colon = code ":"

abbrev pub number_sign : ℕ
number_sign = code "#"

abbrev pub semicolon : ℕ
semicolon = code ";"

abbrev pub equals_sign : ℕ
equals_sign = code "="

abbrev pub underscore : ℕ
underscore = code "_"

abbrev pub open_bracket : ℕ
open_bracket = code "["

abbrev pub close_bracket : ℕ
close_bracket = code "]"

-- from lo to hi, both included
abbrev pub within : ℕ → ℕ → ℕ → Bool
within lo hi b = leb lo b && leb b hi

abbrev pub one_of : List ℕ → ℕ → Bool
one_of [] b = false
one_of (x ∷ xs) b = eqb b x || one_of xs b

unfoldable pub digit : ℕ → Bool
digit b = within (code "0") (code "9") b

-- "ASCII letters"
unfoldable pub letter : ℕ → Bool
letter b = within (code "A") (code "Z") b || within (code "a") (code "z") b

-- "hex digits, either case"
unfoldable pub hex_digit : ℕ → Bool
hex_digit b = digit b || within (code "A") (code "F") b || within (code "a") (code "f") b

-- "an ASCII letter, digit or `-._~`": RFC 3986 unreserved
unfoldable pub unreserved : ℕ → Bool
unreserved b = letter b || digit b || one_of (ascii "-._~") b

-- the bytes that stand for themselves in a segment: "ASCII letters, digits, `-._~`, `!$&'()*+,;=`, `:@`"
unfoldable pub segment_byte : ℕ → Bool
segment_byte b = unreserved b || one_of (ascii "!$&'()*+,;=") b || one_of (ascii ":@") b

-- a byte 10xxxxxx, which goes on a UTF-8 character (RFC 3629)
unfoldable pub continuation : ℕ → Bool
continuation b = within 0x80 0xBF b

-- the first bytes of characters of two, three and four bytes: 110xxxxx, 1110xxxx, 11110xxx
abbrev pub lead2 : ℕ → Bool
lead2 b = within 0xC0 0xDF b

abbrev pub lead3 : ℕ → Bool
lead3 b = within 0xE0 0xEF b

abbrev pub lead4 : ℕ → Bool
lead4 b = within 0xF0 0xF7 b

-- the sets of bytes that texts are made of or searched for: RFC 7230's tchar; "letters, digits, `+-.`" of a scheme; "letters, digits, `._-`" of
-- an id; and what ends a scheme, an authority and a path in RFC 3986, appendix B
unfoldable pub member : Alphabet → ℕ → Bool
member Token b = letter b || digit b || one_of (ascii "!#$%&'*+-.^_`|~") b
member Scheme b = letter b || digit b || one_of (ascii "+-.") b
member Id b = letter b || digit b || one_of (ascii "._-") b
member SchemeEnd b = one_of (ascii ":/?#") b
member AuthorityEnd b = one_of (ascii "/?#") b
member PathEnd b = one_of (ascii "?#") b

-- the value of a hexadecimal digit: digits stand from 0x30 on, letters from 0x41 and from 0x61 on
abbrev pub hex_value : ℕ → ℕ
hex_value b = b % 16 + 9 * (b / 64)

hex_values : map hex_value (ascii "0123456789ABCDEFabcdef")
    ≡ 0 ∷ 1 ∷ 2 ∷ 3 ∷ 4 ∷ 5 ∷ 6 ∷ 7 ∷ 8 ∷ 9 ∷ 10 ∷ 11 ∷ 12 ∷ 13 ∷ 14 ∷ 15 ∷ 10 ∷ 11 ∷ 12 ∷ 13 ∷ 14 ∷ 15 ∷ []
hex_values = refl
