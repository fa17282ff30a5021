-- The key of an entry's row is the entry's own, with its set in front.
-- Assumes nothing.
use Prim.Native.Nat.{ℕ, ◌+◌, ◌/◌, ◌≤◌, ◌<◌}
use mathlib.Core.Path.{◌≡◌, refl}
use mathlib.Core.Bool.{Bool, true, false, not, ◌&&◌, ◌||◌}
use mathlib.Core.List.{◌∷◌}
use native.Mathlib.Omega.{arith}
use lib.Dec.{leb, eqb}
use lib.ListN.{length, get_or}
use borrow.Author.Tests.{leb-true, lt-ltb, le-ltb, ne_eqb}
use Rattle.chars.specs.Bytes.{slash, open_bracket, digit}
use Rattle.chars.specs.Lists.{is_empty, every, after_last}
use Rattle.base.proofs.Bools.{and_right}
use Rattle.names.specs.Names.{part_name, last_segment, folder}
use Rattle.names.specs.Numbers.{value, numeral}
use Rattle.names.specs.Items.{suffix, suffix_where, number_text, named, as_piece, as_item, unless_no_slash, item_name}
use Rattle.names.specs.declared.items.Suffix.{Suffix}
use Rattle.names.specs.declared.items.Suffix.TheVariants.{Whole, Piece}
use Rattle.model.specs.Sets.{Bytes}
use Rattle.model.specs.Fields.{suffix_in, suffix_of}
use Rattle.model.specs.Package.{Item, Default, Override, Relationship, rank, key_of_item, key_of_default, key_of_override, key_of_relationship}
use Rattle.contract.specs.Rows.{tag_of, default_tag, override_tag, relationship_tag, item_row, default_row, override_row, relationship_row, set_of, second, row_key}

-- TAGS. A piece's number is at most 9,999, so an item's tag is below those of the other sets
abbrev Small : Suffix → Type 0
Small x = tag_of x < default_tag

small_piece : (k : ℕ) (l : Bool) → k ≤ 9999 → Small (Piece k l)
small_piece k true h = omega arith
small_piece k false h = omega arith

numeral_small : (s : Bytes) → numeral s ≡ true → value 0 s ≤ 9999
unfolding numeral
numeral_small s e =
    leb-true (value 0 s) 9999 (and_right (not (is_empty s) && (eqb (length s) 1 || not (eqb (get_or s 0 0) 48)) && every digit s) (leb (value 0 s) 9999) e)

suffix_small : (t : Bytes) → Small (suffix t)
unfolding suffix
suffix_small t = go (numeral (number_text t)) refl _ _
  where
    go : (n : Bool) → numeral (number_text t) ≡ n → (q l : Bool) → Small (suffix_where (n && q) (Piece (value 0 (number_text t)) l))
    go true e true l = small_piece (value 0 (number_text t)) l (numeral_small (number_text t) e)
    go true e false l = omega arith
    go false e q l = omega arith

item_small : (s : Bytes) → Small (suffix_in (item_name s))
unfolding item_name
item_small s = go (eqb (after_last slash s) 0) (eqb (get_or (last_segment s) 0 0) open_bracket) (suffix (last_segment s)) (suffix_small (last_segment s))
  where
    named_small : (b : Bool) (n : ℕ) (x : Suffix) → Small x → Small (suffix_in (named b n x))
    named_small true n x h = h
    named_small false n x h = omega arith

    piece_small : (x : Suffix) → Small x → Small (suffix_in (as_piece x (folder s)))
    piece_small Whole h = omega arith
    piece_small (Piece k l) h = named_small (part_name (folder s)) (length (folder s)) (Piece k l) h

    as_item_lem : (b : Bool) → Small (suffix_in (as_item b s))
    as_item_lem true = piece_small (suffix (last_segment s)) (suffix_small (last_segment s))
    as_item_lem false = named_small (part_name s) (length s) Whole (omega arith)

    go : (z b : Bool) (x : Suffix) → Small x → Small (suffix_in (unless_no_slash z (as_item b s)))
    go true b x h = omega arith
    go false b x h = as_item_lem b

pub tag_small : (s : Bytes) → tag_of (suffix_of s) < default_tag
unfolding suffix_of
tag_small s = item_small s

pub tag_half : (x : Suffix) → tag_of x / 2 ≡ rank x
tag_half Whole = refl
tag_half (Piece k true) = omega arith
tag_half (Piece k false) = omega arith

pub tag_set : (t : ℕ) → t < default_tag → set_of t ≡ 0
unfolding set_of
tag_set t h = rw (lt-ltb t default_tag h)

-- KEYS
pub item_row_key : (i : Item) → row_key (item_row i) ≡ (0 ∷ (key_of_item i).0, (key_of_item i).1)
unfolding item_row second
item_row_key i = rw (tag_set (tag_of (suffix_of i.name)) (tag_small i.name), tag_half (suffix_of i.name))

pub item_row_set : (i : Item) → set_of (item_row i).tag ≡ 0
unfolding item_row
item_row_set i = tag_set (tag_of (suffix_of i.name)) (tag_small i.name)

pub default_row_key : (d : Default) → row_key (default_row d) ≡ (1 ∷ (key_of_default d).0, (key_of_default d).1)
unfolding default_row second set_of
default_row_key d = refl

pub default_row_set : (d : Default) → set_of (default_row d).tag ≡ 1
unfolding default_row set_of
default_row_set d = refl

pub override_row_key : (o : Override) → row_key (override_row o) ≡ (2 ∷ (key_of_override o).0, (key_of_override o).1)
unfolding override_row second set_of
override_row_key o = refl

pub override_row_set : (o : Override) → set_of (override_row o).tag ≡ 2
unfolding override_row set_of
override_row_set o = refl

pub relationship_row_set : (r : Relationship) → set_of (relationship_row r).tag ≡ 3
unfolding relationship_row set_of
relationship_row_set r =
    let t = relationship_tag + r.mode in
    rw (le-ltb t default_tag (omega arith), ne_eqb t default_tag (λ e. omega arith), ne_eqb t override_tag (λ e. omega arith))

pub relationship_row_key : (r : Relationship) → row_key (relationship_row r) ≡ (3 ∷ (key_of_relationship r).0, (key_of_relationship r).1)
unfolding relationship_row second
relationship_row_key r = rw (relationship_set) refl
  where
    relationship_set : set_of (relationship_tag + r.mode) ≡ 3
    relationship_set = relationship_row_set r
