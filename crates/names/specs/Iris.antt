-- IRIs by their spelling.
-- Assumes nothing.
use Rattle.std.specs.Prelude.{ℕ, ◌+◌, Bool, not, ◌&&◌, ◌||◌, List, eqb, length, get_or, take, drop}
use Rattle.chars.specs.Bytes.{colon, number_sign, within, letter, member}
use Rattle.chars.specs.Lists.{every, first_passing, index_of, lacks, tiled}
use Rattle.chars.specs.Characters.{unit}
use Rattle.chars.specs.declared.search.Alphabet.TheVariants.{Scheme, SchemeEnd}
use Rattle.chars.specs.declared.units.Grammar.TheVariants.{Iri}

-- "a letter, then letters, digits, `+-.`"
unfoldable pub scheme : List ℕ → Bool
scheme s = letter (get_or s 0 0) && every (member Scheme) s

-- where the first of : / ? # stands
abbrev pub scheme_end : List ℕ → ℕ
scheme_end s = first_passing (member SchemeEnd) s

-- "a colon precedes every `/ ? #`"
unfoldable pub colon_first : List ℕ → Bool
colon_first s = eqb (get_or s (scheme_end s) 0) colon

-- "An IRI here is 1 to 255 bytes of UTF-8 out of segment characters (any triplet), `/`, `?` and at most one `#`."
-- "If a colon precedes every `/ ? #`, what comes before it must be a scheme"
unfoldable pub iri : List ℕ → Bool
iri s =
    within 1 255 (length s) && tiled (unit Iri) 0 s && lacks number_sign (drop (index_of number_sign s + 1) s)
    && (not (colon_first s) || scheme (take (scheme_end s) s))

-- "A package IRI is an IRI with a scheme."
unfoldable pub package_iri : List ℕ → Bool
package_iri s = iri s && colon_first s
