-- One name that opens every definition: for examples, which are proved by computing.
-- Assumes nothing.
use mathlib.Core.List.{flat_map}
use Rattle.chars.specs.Bytes.{digit, letter, hex_digit, unreserved, segment_byte, continuation, member}
use Rattle.chars.specs.Lists.{same, begins, every, first_passing, lacks, after_last, last_byte, split, tiled}
use Rattle.chars.specs.Characters.{ucschar, char2, char3, char4, name_triplet, long_unit, unit}
use Rattle.chars.specs.Folding.{lower, equivalent, derivable, order, folded_order, ends_in}
use Rattle.names.specs.Names.{segment, part_name, reserved, extension_at}
use Rattle.names.specs.Items.{suffix, item_name}
use Rattle.names.specs.Types.{token, token_pair, media_type, extension, identifier}
use Rattle.names.specs.Iris.{scheme, colon_first, iri, package_iri}
use Rattle.names.specs.Numbers.{value, numeral, digits}
use Rattle.names.specs.Reading.{read_number}
use Rattle.iri.specs.Components.{scheme_length, authority_length, after_scheme, after_authority, after_path, scheme_of, authority_of, path_of, query_of, fragment_of, recompose}
use Rattle.iri.specs.References.{first_segment, rule, turn, turns, remove_dot_segments, merge, relative_path, transform, resolve, resolve_reference}
use Rattle.targets.specs.Targets.{source_refusal, internal, resolve_path, internal_refusal, target_refusal, resolve_target}
use Rattle.pack.specs.Pack.{unfragmented, escape, escaped, pack_iri, part_or_root, compose, slashed, low_triplet, decoded, package_of, unfragmented_iri, pack_form, resolve_pack}
use Rattle.targets.specs.Relationships.{relationships_of, relationships_part, source_of, source_part}
use Rattle.markup.specs.Examples.{everything as every_stream}
use Rattle.model.specs.Sets.{then_by, key_order, any, filter, sum_of, lookup, insert, remove}
use Rattle.model.specs.Places.{first_where}
use Rattle.model.specs.Fields.{first, prefix_of, suffix_of, item_field, default_fields, override_fields, relationship_fields}
use Rattle.model.specs.Package.{charge, group, complete_from, is_part, content, spelling, leaders, parts, item_at, media_type_of}
use Rattle.model.specs.Texts.{quoted, types_text, relationships_text}
use Rattle.model.specs.Reading.{types_said, relationships_said, entries_refusal, entries_made, read_types_refusal, read_relationships_refusal}
use Rattle.model.specs.Cutting.{is_whole, pieces_from, pieces, with_all, cut_refusal, join_refusal}
use Rattle.model.specs.TypeOrigin.{origin_of, keyed, type_origin}
use Rattle.model.specs.Puts.{clash, put_item_refusal, drop_item_refusal, put_default_refusal, drop_default_refusal, put_override_refusal}
use Rattle.model.specs.Puts.{drop_override_refusal, put_relationship_refusal, drop_relationship_refusal}
use Rattle.model.specs.Calls.{start_refusal, change, cut, asked_refusal, look, resolved, printed, answers, after}
use Rattle.output.specs.Answers.{filled}
use Rattle.model.specs.Sheet.{without_empty_end, line_read, listing, shown, sheet}

unfoldable pub everything : Unit {0}
unfolding digit letter hex_digit unreserved segment_byte continuation member same begins every first_passing lacks after_last last_byte split
    tiled ucschar char2 char3 char4 name_triplet long_unit unit lower equivalent derivable order folded_order ends_in segment part_name
    reserved extension_at suffix item_name token token_pair media_type extension identifier scheme colon_first iri package_iri value numeral digits
    read_number scheme_length authority_length after_scheme after_authority after_path scheme_of authority_of path_of query_of fragment_of
    recompose first_segment rule turn turns remove_dot_segments merge relative_path transform resolve source_refusal internal resolve_path
    internal_refusal target_refusal resolve_target resolve_reference unfragmented escape escaped pack_iri part_or_root compose slashed
    low_triplet decoded package_of unfragmented_iri pack_form resolve_pack relationships_of relationships_part source_of source_part then_by
    key_order any filter sum_of flat_map lookup insert remove first_where first prefix_of suffix_of item_field default_fields override_fields
    relationship_fields charge group complete_from is_part content spelling leaders parts item_at media_type_of quoted types_text
    relationships_text start_refusal clash put_item_refusal drop_item_refusal put_default_refusal drop_default_refusal put_override_refusal
    is_whole pieces_from pieces with_all cut_refusal join_refusal drop_override_refusal put_relationship_refusal drop_relationship_refusal
    change cut origin_of keyed type_origin asked_refusal look resolved printed filled answers after without_empty_end
    line_read listing shown sheet every_stream types_said relationships_said entries_refusal entries_made read_types_refusal read_relationships_refusal
everything = tt
