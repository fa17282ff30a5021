-- Media types with parameters, document 02's request 1: what stays of document 01's, and which there are. `proofs/MediaTypes.antt` proves it.
-- Assumes nothing.
use Rattle.std.specs.Prelude.{ℕ, ◌+◌, ◌≤◌, ◌≡◌, Bool, true, ◌&&◌, length, take, drop}
use mathlib.Core.List.{List, ◌∷◌, ◌++◌, flat_map}
use Rattle.chars.specs.Bytes.{slash, semicolon, equals_sign, within}
use Rattle.chars.specs.Lists.{index_of, lacks}
use Rattle.names.specs.Types.{token, media_type}

-- document 01's: "A media type is token/token, 3 to 127 bytes" (a token holds no slash, so the first slash parts the two)
unfoldable pub plain_type : List ℕ → Bool
plain_type s = within 3 127 (length s) && token (take (index_of slash s) s) && token (drop (index_of slash s + 1) s)

-- nothing without a semicolon is judged differently
abbrev pub PlainTypesStay : Type 0
PlainTypesStay = (s : List ℕ) → lacks semicolon s ≡ true → media_type s ≡ plain_type s

-- nothing that passed is refused
abbrev pub EarlierTypesStay : Type 0
EarlierTypesStay = (s : List ℕ) → plain_type s ≡ true → media_type s ≡ true

-- two tokens: type and subtype, or a parameter's name and value
pub record Two : Type 0 where
  pub left : List ℕ
  pub right : List ℕ
  pub left_token : token left ≡ true
  pub right_token : token right ≡ true

abbrev pub parted : ℕ → Two → List ℕ
parted b t = t.left ++ b ∷ t.right

-- "A media type may now be followed by parameters: each is `;`, a token, `=`, a token, without spaces."
abbrev pub followed : Two → List Two → List ℕ
followed t ps = parted slash t ++ flat_map (λ (p : Two). semicolon ∷ parted equals_sign p) ps

-- s is a type, followed by parameters
pub record Followed (s : List ℕ) : Type 0 where
  pub type : Two
  pub parameters : List Two
  pub is : s ≡ followed type parameters

-- "The 127 bytes cover the whole." Up to this length every such text is a media type, and there is no other
pub record EveryMediaType : Type 0 where
  pub accepted : (t : Two) (ps : List Two) → length (followed t ps) ≤ 127 → media_type (followed t ps) ≡ true
  pub short : (s : List ℕ) → media_type s ≡ true → length s ≤ 127
  pub only : (s : List ℕ) → media_type s ≡ true → Followed s
