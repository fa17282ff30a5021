-- An IRI taken apart as in RFC 3986, appendix B:
--   ^(([^:/?#]+):)?(//([^/?#]*))?([^?#]*)(\?([^#]*))?(#(.*))?
-- A component is what one of the groups 1, 3, 5, 6, 8 matches: the scheme with its colon, the authority with its two slashes, the path,
-- the query with its question mark, the fragment with its number sign. An undefined component is the empty list; a defined one, even an
-- empty one, has its delimiter. So the five, one after the other, are the IRI (5.3).
-- Assumes nothing.
use Rattle.std.specs.Prelude.{ℕ, ◌+◌, ◌≡◌, Bool, not, ◌&&◌, cond, List, ◌++◌, eqb, take, drop, get_or}
use Prim.Native.Char.{code}
use Rattle.chars.specs.Bytes.{slash, number_sign, member}
use Rattle.chars.specs.Lists.{is_empty, first_passing, index_of}
use Rattle.chars.specs.declared.search.Alphabet.TheVariants.{AuthorityEnd, PathEnd}
use Rattle.names.specs.Iris.{scheme_end, colon_first}

abbrev pub question : ℕ
question = code "?"

abbrev pub comma : ℕ
comma = code ","

abbrev pub at_sign : ℕ
at_sign = code "@"

pub record Components : Type 0 where
  pub scheme : List ℕ
  pub authority : List ℕ
  pub path : List ℕ
  pub query : List ℕ
  pub fragment : List ℕ

-- "defined" of RFC 3986, 5.2.2 and 5.3
abbrev pub defined : List ℕ → Bool
defined c = not (is_empty c)

-- group 1, `([^:/?#]+):`: the first of : / ? # is a colon, and something stands before it
unfoldable pub scheme_length : List ℕ → ℕ
scheme_length s = cond (colon_first s && not (eqb (scheme_end s) 0)) (scheme_end s + 1) 0

-- group 3, `//([^/?#]*)`
unfoldable pub authority_length : List ℕ → ℕ
authority_length s = cond (eqb (get_or s 0 0) slash && eqb (get_or s 1 0) slash) (2 + first_passing (member AuthorityEnd) (drop 2 s)) 0

-- group 5, `[^?#]*`
abbrev pub path_length : List ℕ → ℕ
path_length s = first_passing (member PathEnd) s

-- what follows the scheme, the authority, the path
unfoldable pub after_scheme : List ℕ → List ℕ
after_scheme s = drop (scheme_length s) s

unfoldable pub after_authority : List ℕ → List ℕ
after_authority s = drop (authority_length (after_scheme s)) (after_scheme s)

unfoldable pub after_path : List ℕ → List ℕ
after_path s = drop (path_length (after_authority s)) (after_authority s)

unfoldable pub scheme_of : List ℕ → List ℕ
scheme_of s = take (scheme_length s) s

unfoldable pub authority_of : List ℕ → List ℕ
authority_of s = take (authority_length (after_scheme s)) (after_scheme s)

unfoldable pub path_of : List ℕ → List ℕ
path_of s = take (path_length (after_authority s)) (after_authority s)

-- group 6, `\?([^#]*)`: what follows the path begins with ? or #, or is empty
unfoldable pub query_of : List ℕ → List ℕ
query_of s = take (index_of number_sign (after_path s)) (after_path s)

-- group 8, `#(.*)`
unfoldable pub fragment_of : List ℕ → List ℕ
fragment_of s = drop (index_of number_sign (after_path s)) (after_path s)

abbrev pub components : List ℕ → Components
components s = record { scheme = scheme_of s; authority = authority_of s; path = path_of s; query = query_of s; fragment = fragment_of s }

-- RFC 3986, 5.3
unfoldable pub recompose : Components → List ℕ
recompose c = c.scheme ++ (c.authority ++ (c.path ++ (c.query ++ c.fragment)))

-- "the five, one after the other, are the IRI"
abbrev pub ComponentsReturn : Type 0
ComponentsReturn = (s : List ℕ) → recompose (components s) ≡ s
