-- What the functions answer that read digits, and two tokens with a byte between them. These are promises of inner functions.
-- Assumes nothing.
use Rattle.std.specs.Prelude.{ℕ, ◌≡◌, false, ◌&&◌, cond, Option, Some, None, List, leb, eqb, take}
use Rattle.chars.specs.Bytes.{digit, semicolon, member}
use Rattle.chars.specs.Lists.{every, index_of}
use Rattle.chars.specs.declared.search.Alphabet.TheVariants.{Token}
use Rattle.names.specs.Numbers.{value, numeral}
use Rattle.names.specs.Types.{token_pair}

-- the value of the digits, going on from v; none where it is more than 9,999 or a byte is no digit
unfoldable pub read_number : ℕ → List ℕ → Option ℕ
read_number v s = cond (every digit s && leb (value v s) 9999) (Some (value v s)) None

-- what a numeral stands for
unfoldable pub read_numeral : List ℕ → Option ℕ
read_numeral s = cond (numeral s) (Some (value 0 s)) None

-- b can stand between two tokens of a stretch: no token holds it, and it is no semicolon
pub record Parts (b : ℕ) : Type 0 where
  pub no_token : member Token b ≡ false
  pub no_semicolon : eqb b semicolon ≡ false

-- what stands before the first semicolon; all of s if there is none
abbrev pub stretch : List ℕ → List ℕ
stretch s = take (index_of semicolon s) s

-- its length, if it is a token, the byte b, a token
unfoldable pub pair_length : ℕ → List ℕ → Option ℕ
pair_length b s = cond (token_pair b (stretch s)) (Some (index_of semicolon s)) None
