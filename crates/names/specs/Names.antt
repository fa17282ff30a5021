-- Part names (ISO/IEC 29500-2, 6.2.2.2): segments, reserved names, extensions.
-- Assumes nothing.
use Rattle.std.specs.Prelude.{ℕ, ◌+◌, ◌-◌, Bool, not, ◌&&◌, cond, List, eqb, length, get_or, take, drop}
use Rattle.chars.specs.Bytes.{ascii, slash, dot, within}
use Rattle.chars.specs.Lists.{is_empty, after_last, last_byte, split, all, tiled}
use Rattle.chars.specs.Characters.{unit}
use Rattle.chars.specs.Folding.{equivalent, ends_in}
use Rattle.chars.specs.declared.units.Grammar.TheVariants.{Segment}

-- "it is one or more of" the units of a segment, under the triplet rule; "it does not end with a dot"
unfoldable pub segment : List ℕ → Bool
segment s = not (is_empty s) && not (eqb (last_byte s) dot) && tiled (unit Segment) 0 s

-- "A part name is 2 to 255 bytes of UTF-8: one or more times a slash and a segment": after the first slash, the stretches between
-- slashes are the segments. "Each segment is judged by itself, from its own start"
unfoldable pub part_name : List ℕ → Bool
part_name s = within 2 255 (length s) && eqb (get_or s 0 0) slash && all segment (split slash (drop 1 s))

-- what follows the last slash, and what stands before it
abbrev pub last_segment : List ℕ → List ℕ
last_segment s = drop (after_last slash s) s

abbrev pub folder : List ℕ → List ℕ
folder s = take (after_last slash s - 1) s

-- "A name is reserved if its second-to-last segment folds to `_rels` and its last ends in `.rels` when folded."
unfoldable pub reserved : List ℕ → Bool
reserved s = equivalent (last_segment (folder s)) (ascii "_rels") && ends_in (ascii ".rels") (last_segment s)

-- "A name's extension follows the last dot of its last segment; without a dot it has none": where it starts, 0 for none
unfoldable pub extension_at : List ℕ → ℕ
extension_at s = cond (eqb (after_last dot (last_segment s)) 0) 0 (after_last slash s + after_last dot (last_segment s))
