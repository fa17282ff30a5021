-- Examples of pack IRIs, and each refusal: a table, and a theorem over it.
-- Assumes nothing.
use Rattle.std.specs.Prelude.{ℕ, refl, List, [], ◌∷◌, ◌++◌}
use Rattle.chars.specs.Bytes.{ascii, digit, letter, hex_digit, unreserved, segment_byte, continuation, member}
use Rattle.chars.specs.Lists.{same, begins, every, first_passing, lacks, after_last, last_byte, split, tiled}
use Rattle.chars.specs.Characters.{ucschar, char2, char3, char4, name_triplet, long_unit, unit}
use Rattle.chars.specs.Folding.{lower, equivalent, ends_in}
use Rattle.names.specs.Names.{segment, part_name, reserved}
use Rattle.names.specs.Iris.{scheme, colon_first, iri, package_iri}
use Rattle.iri.specs.Components.{scheme_length, authority_length, after_scheme, after_authority, after_path, scheme_of, authority_of, path_of, query_of, fragment_of, recompose}
use Rattle.iri.specs.References.{first_segment, rule, turn, turns, remove_dot_segments, merge, relative_path, transform, resolve}
use Rattle.iri.specs.Examples.{Row, row, Holds}
use Rattle.targets.specs.Examples.{told}
use Rattle.pack.specs.Pack.{unfragmented, escape, escaped, pack_iri, part_or_root, compose, slashed, low_triplet, decoded, package_of, unfragmented_iri, pack_form, Location, Found, Not, resolve_pack}

abbrev pub both : Location → List ℕ
both (Found p n) = p ++ n
both (Not k) = k ∷ []

unfoldable pub others : List Row
others =
    row (told (compose (ascii "http://www.example.com/ex.opc") (ascii "/foo/b.xml"))) (ascii "pack://http%3A,,www.example.com,ex.opc/foo/b.xml")
    ∷ row (told (compose (ascii "http://a/b?c=d,e@f#g") (ascii "/"))) (ascii "pack://http%3A,,a,b%3Fc=d%2Ce%40f/")
    ∷ row (told (compose (ascii "urn:a%41b") (ascii "/x"))) (ascii "pack://urn%3Aa%2541b/x")
    ∷ row (told (compose (ascii "http:") (ascii "/a"))) (ascii "pack://http%3A/a")
    ∷ row (told (compose (ascii "nope") (ascii "/a"))) (9 ∷ [])
    ∷ row (told (compose (ascii "http://a") (ascii "a"))) (4 ∷ [])
    ∷ row (told (compose (ascii "/x") (ascii "a"))) (9 ∷ [])
    ∷ row (both (resolve_pack (ascii "pack://http%3A,,www.example.com,ex.opc/foo/b.xml"))) (ascii "http://www.example.com/ex.opc/foo/b.xml")
    ∷ row (both (resolve_pack (ascii "PACK://a%3Ab"))) (ascii "a:b")
    ∷ row (both (resolve_pack (ascii "pack://a%3Ab/"))) (ascii "a:b")
    ∷ row (both (resolve_pack (ascii "pack://http:,,h/a"))) (ascii "http://h/a")
    ∷ row (both (resolve_pack (ascii "pack:/a"))) (9 ∷ [])
    ∷ row (both (resolve_pack (ascii "pack:///a"))) (9 ∷ [])
    ∷ row (both (resolve_pack (ascii "pack://a%3A%2541/b"))) (ascii "a:%41/b")
    ∷ row (both (resolve_pack (ascii "pack://a%3A%D1%86/c"))) (ascii "a:%D1%86/c")
    ∷ row (both (resolve_pack (ascii "pack://a%3A%23/b"))) (9 ∷ [])
    ∷ row (both (resolve_pack (ascii "pack://a%3A/a/"))) (9 ∷ [])
    ∷ row (both (resolve_pack (ascii "pack://a%3A?"))) (9 ∷ [])
    ∷ row (both (resolve_pack (ascii "pack://a%3A/b#"))) (9 ∷ [])
    ∷ row (both (resolve_pack (ascii "http://a%3A/b"))) (9 ∷ [])
    ∷ row (both (resolve_pack (ascii "pack://a%3a%2C,b/_rels/.rels"))) (ascii "a:,/b/_rels/.rels")
    ∷ row (both (resolve_pack (ascii "pack://a%3A%%341/x"))) (ascii "a:%41/x")
    ∷ []

-- all that the table computes with
everything : ℕ
unfolding others
    digit letter hex_digit unreserved segment_byte continuation member same begins every first_passing lacks after_last last_byte split tiled
    ucschar char2 char3 char4 name_triplet long_unit unit lower equivalent ends_in segment part_name reserved scheme colon_first iri package_iri
    scheme_length authority_length after_scheme after_authority after_path scheme_of authority_of path_of query_of fragment_of recompose
    first_segment rule turn turns remove_dot_segments merge relative_path transform resolve
    unfragmented escape escaped pack_iri part_or_root compose slashed low_triplet decoded package_of unfragmented_iri pack_form resolve_pack
everything = 0

pub others_hold : Holds others
unfolding everything
others_hold = refl
