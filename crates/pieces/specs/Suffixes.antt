-- The suffixes of pieces as text, and the tag of a piece's row.
-- Assumes nothing.
use Rattle.std.specs.Prelude.{ℕ, Bool, []}
use Rattle.names.specs.Items.{spelled}
use Rattle.names.specs.declared.items.Suffix.TheVariants.{Piece}
use Rattle.model.specs.Sets.{Bytes}
use Rattle.contract.specs.Rows.{tag_of}

-- "lower-case suffixes": what `spelled` puts behind a prefix
abbrev pub suffix_text : ℕ → Bool → Bytes
suffix_text k last = spelled [] (Piece k last)

abbrev pub tag_of_piece : ℕ → Bool → ℕ
tag_of_piece k last = tag_of (Piece k last)
