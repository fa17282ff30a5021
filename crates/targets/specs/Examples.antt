-- Examples of targets and of Relationships parts, and each refusal: a table, and a theorem over it.
-- Assumes nothing.
use Rattle.std.specs.Prelude.{ℕ, refl, List, [], ◌∷◌}
use Rattle.chars.specs.Bytes.{ascii, digit, letter, hex_digit, unreserved, segment_byte, continuation, member}
use Rattle.chars.specs.Lists.{same, begins, every, first_passing, lacks, after_last, last_byte, split, tiled}
use Rattle.chars.specs.Characters.{ucschar, char2, char3, char4, name_triplet, long_unit, unit}
use Rattle.chars.specs.Folding.{lower, equivalent, ends_in}
use Rattle.names.specs.Names.{segment, part_name, reserved}
use Rattle.names.specs.Iris.{scheme, colon_first, iri, package_iri}
use Rattle.output.specs.Answers.{Outcome, Text, Refused}
use Rattle.iri.specs.Components.{scheme_length, authority_length, after_scheme, after_authority, after_path, scheme_of, authority_of, path_of, query_of, fragment_of, recompose}
use Rattle.iri.specs.References.{first_segment, rule, turn, turns, remove_dot_segments, merge, relative_path, transform, resolve, resolve_reference}
use Rattle.iri.specs.Examples.{Row, row, Holds}
use Rattle.targets.specs.Targets.{source_refusal, internal, resolve_path, internal_refusal, resolve_target}
use Rattle.targets.specs.Relationships.{relationships_of, relationships_part, source_of, source_part}

-- a refusal is told as the list of its number alone
abbrev pub told : Outcome → List ℕ
told (Text t values) = t
told (Refused k) = k ∷ []

unfoldable pub others : List Row
others =
    row (resolve_path (ascii "/") (ascii "a")) (ascii "/a")
    ∷ row (resolve_path (ascii "/a/b") (ascii "/x/./y")) (ascii "/x/y")
    ∷ row (resolve_path (ascii "/a") (ascii ".")) (ascii "/")
    ∷ row (resolve_path (ascii "/a/b/") (ascii "c")) (ascii "/a/b/c")
    ∷ row (resolve_path (ascii "/a/b") (ascii "./c/../d")) (ascii "/a/d")
    ∷ row (told (relationships_part (ascii "/"))) (ascii "/_rels/.rels")
    ∷ row (told (relationships_part (ascii "/foo/bar.xml"))) (ascii "/foo/_rels/bar.xml.rels")
    ∷ row (told (relationships_part (ascii "/a"))) (ascii "/_rels/a.rels")
    ∷ row (told (relationships_part (ascii "/a/b/c"))) (ascii "/a/b/_rels/c.rels")
    ∷ row (told (relationships_part (ascii "/_rels/.rels"))) (5 ∷ [])
    ∷ row (told (relationships_part (ascii "a"))) (4 ∷ [])
    ∷ row (told (source_part (ascii "/_rels/.rels"))) (ascii "/")
    ∷ row (told (source_part (ascii "/foo/_RELS/bar.xml.Rels"))) (ascii "/foo/bar.xml")
    ∷ row (told (source_part (ascii "/_rels/_rels/x.rels.rels"))) (4 ∷ [])
    ∷ row (told (source_part (ascii "/_rels/.rels.rels"))) (ascii "/.rels")
    ∷ row (told (source_part (ascii "/a/_rels/.rels"))) (4 ∷ [])
    ∷ row (told (source_part (ascii "a/_rels/b.rels"))) (4 ∷ [])
    ∷ row (told (source_part (ascii "_rels/b.rels"))) (4 ∷ [])
    ∷ row (told (source_part (ascii "/_rels/b.rel"))) (4 ∷ [])
    ∷ row (told (source_part (ascii "/b.rels"))) (4 ∷ [])
    ∷ row (told (source_part (ascii ""))) (4 ∷ [])
    ∷ []

-- all that the table computes with
everything : ℕ
unfolding others
    digit letter hex_digit unreserved segment_byte continuation member same begins every first_passing lacks after_last last_byte split tiled
    ucschar char2 char3 char4 name_triplet long_unit unit lower equivalent ends_in segment part_name reserved scheme colon_first iri package_iri
    scheme_length authority_length after_scheme after_authority after_path scheme_of authority_of path_of query_of fragment_of recompose
    first_segment rule turn turns remove_dot_segments merge relative_path transform resolve
    source_refusal internal resolve_path internal_refusal resolve_target resolve_reference
    relationships_of relationships_part source_of source_part
everything = 0

pub others_hold : Holds others
unfolding everything
others_hold = refl
