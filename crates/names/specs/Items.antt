-- Item names: "a part name (a whole item), or a part name, the prefix, then `/[k].piece` or `/[k].last.piece`, letters of either case".
-- Assumes nothing.
use Rattle.std.specs.Prelude.{ℕ, ◌-◌, ◌≤◌, ◌≡◌, Bool, true, false, ◌&&◌, ◌||◌, List, ◌++◌, eqb, length, get_or, take, drop, Option, Some, None}
use Rattle.chars.specs.Bytes.{ascii, slash, open_bracket, close_bracket}
use Rattle.chars.specs.Lists.{index_of, after_last}
use Rattle.chars.specs.Folding.{equivalent}
use Rattle.output.specs.Refusals.{number}
use Rattle.output.specs.declared.refusals.Refusal.{Refusal}
use Rattle.output.specs.declared.refusals.Refusal.TheVariants.{NotAPartName, BadSuffix}
use Rattle.names.specs.Names.{part_name, last_segment, folder}
use Rattle.names.specs.Numbers.{value, numeral, decimal4}
use Rattle.names.specs.declared.items.Suffix.{Suffix}
use Rattle.names.specs.declared.items.Suffix.TheVariants.{Whole, Piece}
use Rattle.names.specs.declared.items.ItemName.{ItemName}
use Rattle.names.specs.declared.items.ItemName.TheVariants.{Named, Refused}

-- in `[k].piece` and `[k].last.piece`: k, and what follows from the closing bracket on
abbrev pub number_text : List ℕ → List ℕ
number_text t = take (index_of close_bracket t - 1) (drop 1 t)

abbrev pub ending : List ℕ → List ℕ
ending t = drop (index_of close_bracket t) t

abbrev pub suffix_where : Bool → Suffix → Suffix
suffix_where true x = x
suffix_where false x = Whole

-- the suffix that a text beginning with `[` makes: a piece's number, and whether it is marked as the last; `Whole` if it makes none
unfoldable pub suffix : List ℕ → Suffix
suffix t =
    suffix_where (numeral (number_text t) && (equivalent (ending t) (ascii "].piece") || equivalent (ending t) (ascii "].last.piece")))
    (Piece (value 0 (number_text t)) (equivalent (ending t) (ascii "].last.piece")))

-- the prefix is a part name: its length, with the suffix; else "4 not a part name"
abbrev pub named : Bool → ℕ → Suffix → ItemName
named true n x = Named n x
named false n x = Refused NotAPartName

-- "6 what follows an item name's last slash begins with `[` and makes no suffix"; "The suffix doesn't count towards the 255": p is the prefix alone
abbrev pub as_piece : Suffix → List ℕ → ItemName
as_piece Whole p = Refused BadSuffix
as_piece (Piece k l) p = named (part_name p) (length p) (Piece k l)

abbrev pub as_item : Bool → List ℕ → ItemName
as_item true s = as_piece (suffix (last_segment s)) (folder s)
as_item false s = named (part_name s) (length s) Whole

abbrev pub unless_no_slash : Bool → ItemName → ItemName
unless_no_slash true n = Refused NotAPartName
unless_no_slash false n = n

-- "A name is taken apart into prefix, piece number and last mark, or refused": by 6, then 4 ("no slash: 4")
unfoldable pub item_name : List ℕ → ItemName
item_name s = unless_no_slash (eqb (after_last slash s) 0) (as_item (eqb (get_or (last_segment s) 0 0) open_bracket) s)

-- the number of a refusal, 0 for none
abbrev pub refusal_number : Option Refusal → ℕ
refusal_number None = 0
refusal_number (Some r) = number r

abbrev pub item_refusal : ItemName → ℕ
item_refusal (Named n x) = 0
item_refusal (Refused r) = number r

-- a prefix and a suffix put together, in lower case
abbrev pub last_text : Bool → List ℕ
last_text true = ascii "].last.piece"
last_text false = ascii "].piece"

abbrev pub spelled : List ℕ → Suffix → List ℕ
spelled p Whole = p
spelled p (Piece k l) = p ++ (ascii "/[" ++ (decimal4 k ++ last_text l))

-- taken apart, that gives the two again
abbrev pub WholeItemsReturn : Type 0
WholeItemsReturn = (p : List ℕ) → part_name p ≡ true → item_name (spelled p Whole) ≡ Named (length p) Whole

abbrev pub PiecesReturn : Type 0
PiecesReturn = (p : List ℕ) (k : ℕ) (last : Bool) → part_name p ≡ true → k ≤ 9999 → item_name (spelled p (Piece k last)) ≡ Named (length p) (Piece k last)
