-- The commands of the code, read as document 01's lines.
-- Assumes nothing.
use Rattle.std.specs.Prelude.{ℕ, ◌+◌, ◌-◌, ◌<◌, ◌≡◌, cond, eqb, length, take, drop, Option, Some, None}
use Prim.Native.Char.{code}
use Rattle.model.specs.Sets.{Bytes}
use Rattle.model.specs.Calls.{PutItem, DropItem, PutDefault, PutOverride}
use Rattle.model.specs.Sheet.{Line, Does, Lists, Unreadable, line_read}
use Rattle.lines.specs.declared.parsing.Command.{Command}
use Rattle.lines.specs.declared.parsing.Command.TheVariants as command

-- the field from place 2 to e, and the one behind the space at e
abbrev pub field_to : ℕ → Bytes → Bytes
field_to e l = take (e - 2) (drop 2 l)

abbrev pub field_after : ℕ → Bytes → Bytes
field_after e l = drop (e + 1) l

-- a command of the line l, with its fields; a line without one is unreadable
abbrev pub line_as : Option Command → Bytes → Line
line_as (Some (command.Put e)) l = Does (PutItem (field_to e l) (field_after e l))
line_as (Some command.Drop) l = Does (DropItem (drop 2 l))
line_as (Some (command.Default e)) l = Does (PutDefault (field_to e l) (field_after e l))
line_as (Some (command.Override e)) l = Does (PutOverride (field_to e l) (field_after e l))
line_as (Some command.List) l = Lists
line_as None l = Unreadable

-- its fields lie in a line of n bytes
abbrev pub Inside : Option Command → ℕ → Type 0
Inside (Some (command.Put e)) n = (2 < e) × (e < n)
Inside (Some command.Drop) n = 2 < n
Inside (Some (command.Default e)) n = (2 < e) × (e < n)
Inside (Some (command.Override e)) n = (2 < e) × (e < n)
Inside (Some command.List) n = Unit {0}
Inside None n = Unit {0}

pub record Parsed (l : Bytes) (r : Option Command) : Type 0 where
  pub reads : line_as r l ≡ line_read l
  pub inside : Inside r (length l)

-- the commands of two fields that both are filled in, the first one up to e
abbrev pub two_fields : ℕ → ℕ → Option Command
two_fields letter e = cond (eqb letter (code "D")) (Some (command.Default e)) (cond (eqb letter (code "O")) (Some (command.Override e)) None)
