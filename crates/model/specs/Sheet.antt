-- The program `sheet`, as a function of its input.
-- Assumes nothing.
use Rattle.std.specs.Prelude.{ℕ, ◌+◌, ◌-◌, Bool, not, ◌&&◌, cond, ltb, length, drop, replicate}
use Prim.Native.Char.{code}
use mathlib.Core.List.{List, [], ◌∷◌, ◌++◌, flat_map}
use Rattle.std.proofs.Math.Option.{Option, none, some}
use Rattle.chars.specs.Bytes.{ascii}
use Rattle.chars.specs.Lists.{is_empty, same, split}
use Rattle.names.specs.Numbers.{digits}
use Rattle.model.specs.Sets.{Bytes}
use Rattle.model.specs.Package.{Item, State, empty, content, spelling, parts, media_type_of}
use Rattle.model.specs.Texts.{line_feed, line}
use Rattle.model.specs.Calls.{Change, PutItem, DropItem, PutDefault, PutOverride, change}

-- "no line follows a final LF": the stretches between LFs, without an empty one at the end
unfoldable pub without_empty_end : List Bytes → List Bytes
without_empty_end [] = []
without_empty_end (l ∷ []) = cond (is_empty l) [] (l ∷ [])
without_empty_end (l ∷ m ∷ ls) = l ∷ without_empty_end (m ∷ ls)

abbrev pub lines_of : Bytes → List Bytes
lines_of s = without_empty_end (split line_feed s)

-- a line read: a change, L, or "16 line unreadable"
pub data Line : Type 0 where
  Does : Change → Line
  Lists : Line
  Unreadable : Line

abbrev pub readable : Bool → Line → Line
readable b l = cond b l Unreadable

abbrev pub filled_in : Bytes → Bool
filled_in s = not (is_empty s)

abbrev pub space : ℕ
space = code " "

-- "fields parted by one space, none empty but content": the line l, and its fields. `L`; `X name`; `P name content`, `D ext type`,
-- `O name type`; with more spaces only `P`, whose "content is the rest after the second space"
abbrev pub by_fields : Bytes → List Bytes → Line
by_fields l [] = Unreadable
by_fields l (a ∷ []) = readable (same a (ascii "L")) Lists
by_fields l (a ∷ b ∷ []) = readable (same a (ascii "X") && filled_in b) (Does (DropItem b))
by_fields l (a ∷ b ∷ c ∷ []) =
    cond (same a (ascii "P")) (readable (filled_in b) (Does (PutItem b c)))
    (cond (same a (ascii "D")) (readable (filled_in b && filled_in c) (Does (PutDefault b c)))
    (readable (same a (ascii "O") && filled_in b && filled_in c) (Does (PutOverride b c))))
by_fields l (a ∷ b ∷ c ∷ d ∷ r) = readable (same a (ascii "P") && filled_in b) (Does (PutItem b (drop (length a + 1 + length b + 1) l)))

-- "lines of at most 1,024 bytes"; "Any other line, a longer one as a whole, gets 16."
unfoldable pub line_read : Bytes → Line
line_read l = cond (ltb 1024 (length l)) Unreadable (by_fields l (split space l))

-- a number "right-justified" in so many columns (none here is wider)
abbrev pub column : ℕ → ℕ → Bytes
column width n = replicate (width - length (digits width n)) space ++ digits width n

abbrev pub type_or_dash : Option Bytes → Bytes
type_or_dash none = ascii "-"
type_or_dash (some t) = t

-- "pieces (4 columns, 1 for a whole item), space, bytes (8), space, name, space, type or `-`"
abbrev pub part_line : State → List Item → Bytes
part_line S g =
    line
    (column 4 (length g)
    ++ (ascii " "
    ++ (column 8 (length (content g))
    ++ (ascii " "
    ++ (spelling g
    ++ (ascii " "
    ++ type_or_dash (media_type_of (spelling g) S)))))))

-- "L prints for each part in folded order"
unfoldable pub listing : State → Bytes
listing S = flat_map (part_line S) (parts S.items)

-- "Each but L prints the refusal, or 0, in 3 columns, right-justified."
abbrev pub number_line : ℕ → Bytes
number_line n = line (column 3 n)

-- what a line prints, and the package after it
abbrev pub shown_by : State → Line → Bytes × State
shown_by S (Does c) = (number_line (change S c).0.number, (change S c).1)
shown_by S Lists = (listing S, S)
shown_by S Unreadable = (number_line 16, S)

unfoldable pub shown : State → List Bytes → Bytes
shown S [] = []
shown S (l ∷ ls) = (shown_by S (line_read l)).0 ++ shown (shown_by S (line_read l)).1 ls

-- "C is 30,000."
unfoldable pub sheet : Bytes → Bytes
sheet input = shown (empty 30000) (lines_of input)
