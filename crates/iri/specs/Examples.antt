-- RFC 3986's examples of 5.4 (but the empty reference; the program rfc3986 tries the code on them too), and some others: tables, and a
-- theorem over each.
-- Assumes nothing.
use Rattle.std.specs.Prelude.{ℕ, ◌≡◌, refl, List, [], ◌∷◌, map}
use Prim.Native.String.{String}
use Rattle.chars.specs.Bytes.{ascii, member}
use Rattle.chars.specs.Lists.{same, begins, first_passing, after_last}
use Rattle.names.specs.Iris.{colon_first}
use Rattle.iri.specs.Components.{scheme_length, authority_length, after_scheme, after_authority, after_path, scheme_of, authority_of, path_of, query_of, fragment_of, recompose}
use Rattle.iri.specs.References.{first_segment, rule, turn, turns, remove_dot_segments, merge, relative_path, transform, resolve}

pub record Row : Type 0 where
  pub got : List ℕ
  pub wanted : List ℕ

abbrev pub row : List ℕ → List ℕ → Row
row g w = record { got = g; wanted = w }

-- against the base of RFC 3986, 5.4
abbrev pub from : String → List ℕ
from r = resolve (ascii "http://a/b/c/d;p?q") (ascii r)

unfoldable pub normal : List Row
normal =
    row (from "g:h") (ascii "g:h")
    ∷ row (from "g") (ascii "http://a/b/c/g")
    ∷ row (from "./g") (ascii "http://a/b/c/g")
    ∷ row (from "g/") (ascii "http://a/b/c/g/")
    ∷ row (from "/g") (ascii "http://a/g")
    ∷ row (from "//g") (ascii "http://g")
    ∷ row (from "?y") (ascii "http://a/b/c/d;p?y")
    ∷ row (from "g?y") (ascii "http://a/b/c/g?y")
    ∷ row (from "#s") (ascii "http://a/b/c/d;p?q#s")
    ∷ row (from "g#s") (ascii "http://a/b/c/g#s")
    ∷ row (from "g?y#s") (ascii "http://a/b/c/g?y#s")
    ∷ row (from ";x") (ascii "http://a/b/c/;x")
    ∷ row (from "g;x") (ascii "http://a/b/c/g;x")
    ∷ row (from "g;x?y#s") (ascii "http://a/b/c/g;x?y#s")
    ∷ row (from ".") (ascii "http://a/b/c/")
    ∷ row (from "./") (ascii "http://a/b/c/")
    ∷ row (from "..") (ascii "http://a/b/")
    ∷ row (from "../") (ascii "http://a/b/")
    ∷ row (from "../g") (ascii "http://a/b/g")
    ∷ row (from "../..") (ascii "http://a/")
    ∷ row (from "../../") (ascii "http://a/")
    ∷ row (from "../../g") (ascii "http://a/g")
    ∷ []

unfoldable pub abnormal : List Row
abnormal =
    row (from "../../../g") (ascii "http://a/g")
    ∷ row (from "../../../../g") (ascii "http://a/g")
    ∷ row (from "/./g") (ascii "http://a/g")
    ∷ row (from "/../g") (ascii "http://a/g")
    ∷ row (from "g.") (ascii "http://a/b/c/g.")
    ∷ row (from ".g") (ascii "http://a/b/c/.g")
    ∷ row (from "g..") (ascii "http://a/b/c/g..")
    ∷ row (from "..g") (ascii "http://a/b/c/..g")
    ∷ row (from "./../g") (ascii "http://a/b/g")
    ∷ row (from "./g/.") (ascii "http://a/b/c/g/")
    ∷ row (from "g/./h") (ascii "http://a/b/c/g/h")
    ∷ row (from "g/../h") (ascii "http://a/b/c/h")
    ∷ row (from "g;x=1/./y") (ascii "http://a/b/c/g;x=1/y")
    ∷ row (from "g;x=1/../y") (ascii "http://a/b/c/y")
    ∷ row (from "g?y/./x") (ascii "http://a/b/c/g?y/./x")
    ∷ row (from "g?y/../x") (ascii "http://a/b/c/g?y/../x")
    ∷ row (from "g#s/./x") (ascii "http://a/b/c/g#s/./x")
    ∷ row (from "g#s/../x") (ascii "http://a/b/c/g#s/../x")
    ∷ row (from "http:g") (ascii "http:g")
    ∷ []

-- where the letter of the papers decides
unfoldable pub others : List Row
others =
    row (resolve (ascii "urn:x") (ascii "g/../h")) (ascii "urn:/h")
    ∷ row (resolve (ascii "a:/b") (ascii "/.//c")) (ascii "a://c")
    ∷ row (resolve (ascii "http://a") (ascii "g")) (ascii "http://a/g")
    ∷ row (resolve (ascii "http://a?q") (ascii "g")) (ascii "http://a/g")
    ∷ row (resolve (ascii "http://a/b?q") (ascii "#")) (ascii "http://a/b?q#")
    ∷ row (resolve (ascii "http://a/b?q") (ascii "?")) (ascii "http://a/b?")
    ∷ row (resolve (ascii "http://a/b/../c") (ascii "?y")) (ascii "http://a/b/../c?y")
    ∷ row (resolve (ascii "http://a/b#f") (ascii "g")) (ascii "http://a/g")
    ∷ row (resolve (ascii "a:b") (ascii "../.././c")) (ascii "a:c")
    ∷ row (resolve (ascii "http://h/p") (ascii "//x/../y")) (ascii "http://x/y")
    ∷ row (resolve (ascii "mid:x") (ascii ".")) (ascii "mid:")
    ∷ row (resolve (ascii "http://a/b/c") (ascii "a//../..//d/.")) (ascii "http://a/b//d/")
    ∷ []

abbrev pub Holds : List Row → Type 0
Holds t = map (λ (r : Row). r.got) t ≡ map (λ (r : Row). r.wanted) t

-- all that the tables compute with
everything : ℕ
unfolding normal abnormal others
    member same begins first_passing after_last colon_first
    scheme_length authority_length after_scheme after_authority after_path scheme_of authority_of path_of query_of fragment_of recompose
    first_segment rule turn turns remove_dot_segments merge relative_path transform resolve
everything = 0

pub normal_hold : Holds normal
unfolding everything
normal_hold = refl

pub abnormal_hold : Holds abnormal
unfolding everything
abnormal_hold = refl

pub others_hold : Holds others
unfolding everything
others_hold = refl
