-- "The class of each of the 256 byte values stands in one constant table." What a class number says of its byte.
-- Assumes nothing.
use Rattle.std.specs.Prelude.{◌≡◌, ◌||◌, List, [], ◌∷◌, ℕ, leb, eqb}
use Rattle.chars.specs.Bytes.{within, letter, digit, hex_digit, unreserved, segment_byte, continuation, lead2, lead3, lead4, member}
use Rattle.chars.specs.Characters.{single}
use Rattle.chars.specs.declared.search.Alphabet.TheVariants.{Token, Scheme, Id, SchemeEnd, AuthorityEnd, PathEnd}
use Rattle.chars.specs.declared.units.Grammar.TheVariants.{Iri}

-- 0 digit, 1 A-F a-f, 2 other letter, 3 - and ., 4 _, 5 ~, 6 +, 7 ! $ & ' *, 8 ( ) , ; = @, 9 :, 10 /, 11 ?, 12 #, 13 %, 14 ^ ` |, 15 other ASCII,
-- 16 a continuation byte of UTF-8, 17, 18, 19 the first byte of two, three, four, 20 none of these
unfoldable pub classes : List ℕ
classes =
    15 ∷ 15 ∷ 15 ∷ 15 ∷ 15 ∷ 15 ∷ 15 ∷ 15 ∷ 15 ∷ 15 ∷ 15 ∷ 15 ∷ 15 ∷ 15 ∷ 15 ∷ 15 ∷
    15 ∷ 15 ∷ 15 ∷ 15 ∷ 15 ∷ 15 ∷ 15 ∷ 15 ∷ 15 ∷ 15 ∷ 15 ∷ 15 ∷ 15 ∷ 15 ∷ 15 ∷ 15 ∷
    15 ∷ 7 ∷ 15 ∷ 12 ∷ 7 ∷ 13 ∷ 7 ∷ 7 ∷ 8 ∷ 8 ∷ 7 ∷ 6 ∷ 8 ∷ 3 ∷ 3 ∷ 10 ∷
    0 ∷ 0 ∷ 0 ∷ 0 ∷ 0 ∷ 0 ∷ 0 ∷ 0 ∷ 0 ∷ 0 ∷ 9 ∷ 8 ∷ 15 ∷ 8 ∷ 15 ∷ 11 ∷
    8 ∷ 1 ∷ 1 ∷ 1 ∷ 1 ∷ 1 ∷ 1 ∷ 2 ∷ 2 ∷ 2 ∷ 2 ∷ 2 ∷ 2 ∷ 2 ∷ 2 ∷ 2 ∷
    2 ∷ 2 ∷ 2 ∷ 2 ∷ 2 ∷ 2 ∷ 2 ∷ 2 ∷ 2 ∷ 2 ∷ 2 ∷ 15 ∷ 15 ∷ 15 ∷ 14 ∷ 4 ∷
    14 ∷ 1 ∷ 1 ∷ 1 ∷ 1 ∷ 1 ∷ 1 ∷ 2 ∷ 2 ∷ 2 ∷ 2 ∷ 2 ∷ 2 ∷ 2 ∷ 2 ∷ 2 ∷
    2 ∷ 2 ∷ 2 ∷ 2 ∷ 2 ∷ 2 ∷ 2 ∷ 2 ∷ 2 ∷ 2 ∷ 2 ∷ 15 ∷ 14 ∷ 15 ∷ 5 ∷ 15 ∷
    16 ∷ 16 ∷ 16 ∷ 16 ∷ 16 ∷ 16 ∷ 16 ∷ 16 ∷ 16 ∷ 16 ∷ 16 ∷ 16 ∷ 16 ∷ 16 ∷ 16 ∷ 16 ∷
    16 ∷ 16 ∷ 16 ∷ 16 ∷ 16 ∷ 16 ∷ 16 ∷ 16 ∷ 16 ∷ 16 ∷ 16 ∷ 16 ∷ 16 ∷ 16 ∷ 16 ∷ 16 ∷
    16 ∷ 16 ∷ 16 ∷ 16 ∷ 16 ∷ 16 ∷ 16 ∷ 16 ∷ 16 ∷ 16 ∷ 16 ∷ 16 ∷ 16 ∷ 16 ∷ 16 ∷ 16 ∷
    16 ∷ 16 ∷ 16 ∷ 16 ∷ 16 ∷ 16 ∷ 16 ∷ 16 ∷ 16 ∷ 16 ∷ 16 ∷ 16 ∷ 16 ∷ 16 ∷ 16 ∷ 16 ∷
    17 ∷ 17 ∷ 17 ∷ 17 ∷ 17 ∷ 17 ∷ 17 ∷ 17 ∷ 17 ∷ 17 ∷ 17 ∷ 17 ∷ 17 ∷ 17 ∷ 17 ∷ 17 ∷
    17 ∷ 17 ∷ 17 ∷ 17 ∷ 17 ∷ 17 ∷ 17 ∷ 17 ∷ 17 ∷ 17 ∷ 17 ∷ 17 ∷ 17 ∷ 17 ∷ 17 ∷ 17 ∷
    18 ∷ 18 ∷ 18 ∷ 18 ∷ 18 ∷ 18 ∷ 18 ∷ 18 ∷ 18 ∷ 18 ∷ 18 ∷ 18 ∷ 18 ∷ 18 ∷ 18 ∷ 18 ∷
    19 ∷ 19 ∷ 19 ∷ 19 ∷ 19 ∷ 19 ∷ 19 ∷ 19 ∷ 20 ∷ 20 ∷ 20 ∷ 20 ∷ 20 ∷ 20 ∷ 20 ∷ 20 ∷
    []

-- k is the number of b's class: each byte class of the grammars is read off k
pub record Classed (b k : ℕ) : Type 0 where
  pub is_digit : eqb k 0 ≡ digit b
  pub is_hex_digit : leb k 1 ≡ hex_digit b
  pub is_letter : within 1 2 k ≡ letter b
  pub is_unreserved : leb k 5 ≡ unreserved b
  pub is_segment_byte : leb k 9 ≡ segment_byte b
  pub is_iri_byte : leb k 12 ≡ single Iri b
  pub is_token : (leb k 7 || within 12 14 k) ≡ member Token b
  pub is_scheme : (leb k 3 || eqb k 6) ≡ member Scheme b
  pub is_id : leb k 4 ≡ member Id b
  pub is_scheme_end : within 9 12 k ≡ member SchemeEnd b
  pub is_authority_end : within 10 12 k ≡ member AuthorityEnd b
  pub is_path_end : within 11 12 k ≡ member PathEnd b
  pub is_continuation : eqb k 16 ≡ continuation b
  pub is_lead2 : eqb k 17 ≡ lead2 b
  pub is_lead3 : eqb k 18 ≡ lead3 b
  pub is_lead4 : eqb k 19 ≡ lead4 b
