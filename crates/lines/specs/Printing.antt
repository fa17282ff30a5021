-- The printed lines, by what the code is given.
-- Assumes nothing.
use Rattle.std.specs.Prelude.{ℕ, ◌+◌, ◌%◌, cond, ◌++◌, eqb, replicate}
use Prim.Native.Char.{code}
use Rattle.std.proofs.Math.Option.{Option, none, some}
use Rattle.chars.specs.Bytes.{ascii}
use Rattle.chars.specs.Lists.{is_empty}
use Rattle.model.specs.Sets.{Bytes}
use Rattle.model.specs.Texts.{line}
use Rattle.model.specs.Sheet.{space, column, type_or_dash}

-- a number's columns, with nothing but spaces for 0
unfoldable pub padded : ℕ → ℕ → Bytes
padded width v = cond (eqb v 0) (replicate width space) (column width v)

-- the last of them
abbrev pub cell_of : ℕ → ℕ
cell_of v = cond (eqb v 0) space (code "0" + v % 10)

-- an empty type stands for none
abbrev pub type_given : Bytes → Option Bytes
type_given t = cond (is_empty t) none (some t)

abbrev pub columns : ℕ → ℕ → Bytes
columns pieces bytes = column 4 pieces ++ (ascii " " ++ (column 8 bytes ++ ascii " "))

-- `part_line` of a part with so many pieces and bytes, this name and this type
abbrev pub part_text : ℕ → ℕ → Bytes → Option Bytes → Bytes
part_text pieces bytes name type = line (column 4 pieces ++ (ascii " " ++ (column 8 bytes ++ (ascii " " ++ (name ++ (ascii " " ++ type_or_dash type))))))
