-- How many bytes a part name, an extension, a media type, an id and an IRI have; how an id begins.
-- Assumes nothing.
use Prim.Native.Nat.{ℕ, ◌+◌, ◌≤◌, ◌<◌}
use mathlib.Core.Path.{◌≡◌}
use mathlib.Core.Bool.{true, ◌&&◌, ◌||◌, not}
use mathlib.Core.List.{List}
use native.Mathlib.Omega.{arith}
use lib.Dec.{leb, eqb}
use lib.ListN.{length, get_or, take, drop}
use borrow.Author.Tests.{leb-true}
use Rattle.chars.specs.Bytes.{slash, number_sign, dot, semicolon, underscore, within, letter, member}
use Rattle.chars.specs.Lists.{split, all, every, index_of, lacks, tiled}
use Rattle.chars.specs.Characters.{unit}
use Rattle.chars.specs.declared.search.Alphabet.TheVariants.{Id}
use Rattle.chars.specs.declared.units.Grammar.TheVariants.{Segment, Iri}
use Rattle.base.proofs.Bools.{and_left, and_right}
use Rattle.names.specs.Names.{segment, part_name}
use Rattle.names.specs.Types.{type_and_parameters, media_type, extension, identifier}
use Rattle.names.specs.Iris.{iri, colon_first, scheme, scheme_end, package_iri}

within_both : (a b n : ℕ) → within a b n ≡ true → (a ≤ n) × (n ≤ b)
within_both a b n e = (leb-true a n (and_left (leb a n) (leb n b) e), leb-true n b (and_right (leb a n) (leb n b) e))

pub part_name_size : (s : List ℕ) → part_name s ≡ true → (2 ≤ length s) × (length s ≤ 255)
unfolding part_name
part_name_size s e =
    let w = within 2 255 (length s) in
    let f = eqb (get_or s 0 0) slash in
    within_both 2 255 (length s) (and_left w f (and_left (w && f) (all segment (split slash (drop 1 s))) e))

pub name_few : (s : List ℕ) → part_name s ≡ true → length s ≤ 255
name_few s e = (part_name_size s e).1

pub name_some : (s : List ℕ) → part_name s ≡ true → 0 < length s
name_some s e = omega (arith, (part_name_size s e).0)

pub extension_size : (s : List ℕ) → extension s ≡ true → (1 ≤ length s) × (length s ≤ 31)
unfolding extension
extension_size s e =
    let w = within 1 31 (length s) in
    let f = lacks dot s in
    within_both 1 31 (length s) (and_left w f (and_left (w && f) (tiled (unit Segment) 0 s) e))

pub extension_some : (s : List ℕ) → extension s ≡ true → 0 < length s
extension_some s e = omega (arith, (extension_size s e).0)

pub media_type_size : (s : List ℕ) → media_type s ≡ true → (3 ≤ length s) × (length s ≤ 127)
unfolding media_type
media_type_size s e = within_both 3 127 (length s) (and_left (within 3 127 (length s)) (type_and_parameters (split semicolon s)) e)

module _ (s : List ℕ) (e : identifier s ≡ true) where
  pub identifier_size : (1 ≤ length s) × (length s ≤ 63)
  unfolding identifier
  identifier_size =
      let w = within 1 63 (length s) in
      let f = letter (get_or s 0 0) || eqb (get_or s 0 0) underscore in
      within_both 1 63 (length s) (and_left w f (and_left (w && f) (every (member Id) s) e))

  pub identifier_first : (letter (get_or s 0 0) || eqb (get_or s 0 0) underscore) ≡ true
  unfolding identifier
  identifier_first =
      let w = within 1 63 (length s) in
      let f = letter (get_or s 0 0) || eqb (get_or s 0 0) underscore in
      and_right w f (and_left (w && f) (every (member Id) s) e)

pub iri_size : (s : List ℕ) → iri s ≡ true → (1 ≤ length s) × (length s ≤ 255)
unfolding iri
iri_size s e =
    let w = within 1 255 (length s) in
    let t = tiled (unit Iri) 0 s in
    let l = lacks number_sign (drop (index_of number_sign s + 1) s) in
    within_both 1 255 (length s) (and_left w t (and_left (w && t) l (and_left (w && t && l) (not (colon_first s) || scheme (take (scheme_end s) s)) e)))

pub iri_few : (s : List ℕ) → iri s ≡ true → length s ≤ 255
iri_few s e = (iri_size s e).1

pub iri_some : (s : List ℕ) → iri s ≡ true → 1 ≤ length s
iri_some s e = (iri_size s e).0

pub package_few : (s : List ℕ) → package_iri s ≡ true → length s ≤ 255
unfolding package_iri
package_few s e = iri_few s (and_left (iri s) (colon_first s) e)
