-- Media types, extensions, relationship ids.
-- Assumes nothing.
use Rattle.std.specs.Prelude.{ℕ, ◌+◌, Bool, false, not, ◌&&◌, ◌||◌, List, [], ◌∷◌, eqb, length, get_or, take, drop}
use Rattle.chars.specs.Bytes.{slash, dot, semicolon, equals_sign, underscore, within, letter, member}
use Rattle.chars.specs.Lists.{is_empty, every, index_of, lacks, split, all, tiled}
use Rattle.chars.specs.Characters.{unit}
use Rattle.chars.specs.declared.search.Alphabet.TheVariants.{Token, Id}
use Rattle.chars.specs.declared.units.Grammar.TheVariants.{Segment}

-- "tokens as in RFC 7231"
unfoldable pub token : List ℕ → Bool
token s = not (is_empty s) && every (member Token) s

-- a token, the byte b, a token; for a b that no token holds, so that the first b parts the two
unfoldable pub token_pair : ℕ → List ℕ → Bool
token_pair b s = token (take (index_of b s) s) && token (drop (index_of b s + 1) s)

-- "token/token"; document 02: "A media type may now be followed by parameters: each is `;`, a token, `=`, a token, without spaces."
-- The stretches between semicolons, which no token holds, are the type and then the parameters.
abbrev pub type_and_parameters : List (List ℕ) → Bool
type_and_parameters [] = false
type_and_parameters (t ∷ ps) = token_pair slash t && all (token_pair equals_sign) ps

-- "A media type is token/token, 3 to 127 bytes"; document 02: "The 127 bytes cover the whole."
unfoldable pub media_type : List ℕ → Bool
media_type s = within 3 127 (length s) && type_and_parameters (split semicolon s)

-- "An extension is 1 to 31 bytes of segment characters under the triplet rule, without a dot."
unfoldable pub extension : List ℕ → Bool
extension s = within 1 31 (length s) && lacks dot s && tiled (unit Segment) 0 s

-- "an id (1 to 63 bytes: letter or `_`, then letters, digits, `._-`, compared exactly)"
unfoldable pub identifier : List ℕ → Bool
identifier s = within 1 63 (length s) && (letter (get_or s 0 0) || eqb (get_or s 0 0) underscore) && every (member Id) s
