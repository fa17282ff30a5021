-- Pack IRIs: composing (ISO/IEC 29500-2, 6.3.4) and resolving.
-- Assumes nothing.
use Rattle.std.specs.Prelude.{ℕ, zero, suc, ◌≡◌, Bool, true, false, ◌&&◌, ◌||◌, cond, List, [], ◌∷◌, ◌++◌, map, leb, ltb, eqb, length, take, drop, get_or, Result, Ok, Err}
use Rattle.chars.specs.Bytes.{ascii, slash, percent, colon, number_sign, hex_digit}
use Rattle.chars.specs.Lists.{is_empty, same, index_of, lacks}
use Rattle.chars.specs.Characters.{stands}
use Rattle.chars.specs.Folding.{equivalent}
use Rattle.names.specs.Names.{part_name}
use Rattle.names.specs.Iris.{package_iri}
use Rattle.iri.specs.Components.{question, comma, at_sign, defined, scheme_of, authority_of, path_of, query_of, fragment_of}
use Rattle.iri.specs.References.{resolve}
use Rattle.targets.specs.Targets.{internal, resolve_path}
use Rattle.output.specs.Answers.{Outcome, Text, provided, Answer, answer, failing}
use Rattle.pack.specs.declared.pack.Resolved.{Resolved}
use Rattle.output.specs.declared.refusals.Unwritten.{Unwritten}

-- "drop the fragment"
unfoldable pub unfragmented : List ℕ → List ℕ
unfragmented p = take (index_of number_sign p) p

-- "replace `% ? @ : ,` by %25 %3F %40 %3A %2C; replace each slash by a comma"
unfoldable pub escape : ℕ → List ℕ
escape b =
    cond (eqb b percent) (ascii "%25")
    (cond (eqb b question) (ascii "%3F")
    (cond (eqb b at_sign) (ascii "%40")
    (cond (eqb b colon) (ascii "%3A")
    (cond (eqb b comma) (ascii "%2C")
    (cond (eqb b slash) (ascii ",")
    (b ∷ []))))))

unfoldable pub escaped : List ℕ → List ℕ
escaped [] = []
escaped (b ∷ s) = escape b ++ escaped s

-- "write `pack://`, that authority, then the part name or `/`"
unfoldable pub pack_iri : List ℕ → List ℕ → List ℕ
pack_iri p n = ascii "pack://" ++ (escaped (unfragmented p) ++ n)

-- "a part name or `/`"
unfoldable pub part_or_root : List ℕ → Bool
part_or_root n = same n (ascii "/") || part_name n

-- "from a package IRI and a part name or `/`": 9, then 4
unfoldable pub compose : List ℕ → List ℕ → Outcome
compose p n = provided (package_iri p) 9 (provided (part_or_root n) 4 (Text (pack_iri p n) []))

-- "commas become slashes"
unfoldable pub slashed : ℕ → ℕ
slashed b = cond (eqb b comma) slash b

-- "triplets below %80"
unfoldable pub low_triplet : ℕ → ℕ → ℕ → Bool
low_triplet a b c = eqb a percent && hex_digit b && hex_digit c && ltb (stands b c) 0x80

-- the character of a triplet, or the byte itself
abbrev pub character : Bool → ℕ → ℕ → ℕ → ℕ
character low a b c = cond low (stands b c) a

-- "become characters, once": from left to right, k bytes being passed over first
unfoldable pub decoded : ℕ → List ℕ → List ℕ
decoded k [] = []
decoded (suc k) (b ∷ s) = decoded k s
decoded zero (b ∷ s) =
    character (low_triplet b (get_or s 0 0) (get_or s 1 0)) b (get_or s 0 0) (get_or s 1 0) ∷ decoded (cond (low_triplet b (get_or s 0 0) (get_or s 1 0)) 2 0) s

-- the package IRI that an authority stands for: "commas become slashes, then triplets below %80 become characters"
unfoldable pub package_of : List ℕ → List ℕ
package_of a = decoded 0 (map slashed a)

-- "the result must be a package IRI without fragment"
unfoldable pub unfragmented_iri : List ℕ → Bool
unfragmented_iri p = package_iri p && lacks number_sign p

-- "scheme pack in either case, authority up to 765 bytes, no query or fragment"; "An empty path or `/` means the package; any other path
-- must be a part name"
unfoldable pub pack_form : List ℕ → Bool
pack_form s =
    equivalent (scheme_of s) (ascii "pack:")
    && defined (authority_of s) && leb (length (drop 2 (authority_of s))) 765
    && (is_empty (query_of s) && is_empty (fragment_of s))
    && (is_empty (path_of s) || part_or_root (path_of s))

-- the part name of a path, empty for the package
abbrev pub part_of : List ℕ → List ℕ
part_of path = cond (same path (ascii "/")) [] path

-- a package IRI and a part name, or the number of a refusal
pub data Location : Type 0 where
  Found : List ℕ → List ℕ → Location
  Not : ℕ → Location

-- "else 9"
abbrev pub found : Bool → List ℕ → List ℕ → Location
found true p n = Found p n
found false p n = Not 9

-- "Resolving": "the result must be a package IRI ..; any other path must be a part name, else 9 (reserved ones pass)"
unfoldable pub resolve_pack : List ℕ → Location
resolve_pack s =
    found (pack_form s && unfragmented_iri (package_of (drop 2 (authority_of s)))) (package_of (drop 2 (authority_of s))) (part_of (path_of s))

-- Demand 2: composing a pack IRI and resolving it gives the package IRI without its fragment, and the part name.
abbrev pub PackIrisReturn : Type 0
PackIrisReturn = (p n : List ℕ) → package_iri p ≡ true → part_or_root n ≡ true → resolve_pack (pack_iri p n) ≡ Found (unfragmented p) (part_of n)

-- An internal target, resolved by RFC 3986 against the pack IRI of its source, is the pack IRI of the path resolved from that source.
abbrev pub TargetsResolve : Type 0
TargetsResolve =
    (p source target : List ℕ) → package_iri p ≡ true → part_or_root source ≡ true → internal target ≡ true
    → resolve (pack_iri p source) target ≡ pack_iri p (resolve_path source target)

-- document 01's number and values for each answer of the call `resolve_pack`
abbrev pub of_resolved : Result Resolved Unwritten → List ℕ → Answer
of_resolved (Ok r) out = answer 0 (r.package ∷ r.part ∷ []) out
of_resolved (Err u) out = failing 2 u out

-- "The output holds the package IRI, directly followed by the part name if there is one; both lengths are answered, and 3 carries their sum."
abbrev pub located_where : Bool → List ℕ → List ℕ → List ℕ → Answer
located_where true p n out = answer 0 (length p ∷ length n ∷ []) ((p ++ n) ++ drop (length (p ++ n)) out)
located_where false p n out = answer 3 (length (p ++ n) ∷ 0 ∷ []) out

abbrev pub located : Location → List ℕ → Answer
located (Found p n) out = located_where (leb (length (p ++ n)) (length out)) p n out
located (Not k) out = answer k (0 ∷ 0 ∷ []) out
