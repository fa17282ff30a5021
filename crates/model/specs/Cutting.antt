-- Request 2 of document 02: a part cut into pieces, and pieces joined again.
-- Assumes nothing.
use Rattle.std.specs.Prelude.{ℕ, zero, suc, ◌+◌, ◌/◌, ◌%◌, Bool, not, ◌||◌, cond, List, [], ◌∷◌, ltb, eqb, length, take, drop}
use Rattle.chars.specs.Bytes.{within}
use Rattle.chars.specs.Folding.{equivalent}
use Rattle.names.specs.Items.{spelled}
use Rattle.names.specs.declared.items.Suffix.TheVariants.{Whole, Piece}
use Rattle.model.specs.Sets.{Bytes, any, filter, insert}
use Rattle.model.specs.Fields.{when, first, prefix_of, suffix_of, whole, part_field}
use Rattle.model.specs.Package.{Item, State, item_kind, item_limit, key_of_item, charge, group, no_part, content, spelling}

-- A part that is one whole item; any other part is in pieces
unfoldable pub is_whole : List Item → Bool
is_whole g = any (λ (i : Item). whole (suffix_of i.name)) g

-- PIECES. "the first r pieces hold q + 1 bytes, the others q"
abbrev pub piece_size : ℕ → ℕ → ℕ → ℕ
piece_size q r k = cond (ltb k r) (suc q) q

-- "The pieces take the part's spelling with lower-case suffixes, 0 to n − 1, the final one marked last": so many pieces of the bytes in the
-- spelling p, the first of them numbered k. The final one is the one behind which none is left
unfoldable pub pieces_from : ℕ → Bytes → ℕ → ℕ → ℕ → Bytes → List Item
pieces_from zero p q r k bytes = []
pieces_from (suc left) p q r k bytes =
    record { name = spelled p (Piece k (eqb left 0)); bytes = take (piece_size q r k) bytes }
    ∷ pieces_from left p q r (suc k) (drop (piece_size q r k) bytes)

-- "a whole part of L bytes into n pieces gives q and r with L = n times q + r and r below n"
abbrev pub quotient : List Item → ℕ → ℕ
quotient g n = length (content g) / n

abbrev pub rest : List Item → ℕ → ℕ
rest g n = length (content g) % n

unfoldable pub pieces : List Item → ℕ → List Item
pieces g n = pieces_from n (spelling g) (quotient g n) (rest g n) 0 (content g)

-- "Joining makes one whole item in piece 0's spelling."
abbrev pub joined_item : List Item → Item
joined_item g = record { name = spelled (spelling g) Whole; bytes = content g }

-- THE PACKAGE AFTER EITHER. The set with these items more
unfoldable pub with_all : List Item → List Item → List Item
with_all [] is = is
with_all (x ∷ xs) is = insert key_of_item x (with_all xs is)

-- the package with these items in the place of the part's
abbrev pub regrouped : State → Bytes → List Item → State
regrouped S name new =
    item_kind.renewed S (with_all new (filter (λ (i : Item). not (equivalent (prefix_of i.name) name)) S.items))

abbrev pub cut_made : State → Bytes → ℕ → State
cut_made S name n = regrouped S name (pieces (group name S.items) n)

abbrev pub join_made : State → Bytes → State
join_made S name = regrouped S name (joined_item (group name S.items) ∷ [])

-- REFUSALS. "Cutting meets 15 by what would stand after it": more items than the limit, or a charge above C
abbrev pub overfull : State → Bool
overfull T = ltb item_limit (length T.items) || ltb T.capacity (charge T)

-- "17 where n is outside 1 to 256, and 18 where the part is not whole (cutting) or not in pieces (joining); 18 follows 13, then comes 17,
-- then 15"
unfoldable pub cut_refusal : State → Bytes → ℕ → ℕ
cut_refusal S name n =
    first
    (part_field name
    ∷ no_part S name
    ∷ when (not (is_whole (group name S.items))) 18
    ∷ when (not (within 1 256 n)) 17
    ∷ when (overfull (cut_made S name n)) 15
    ∷ [])

-- "joining never does"
unfoldable pub join_refusal : State → Bytes → ℕ
join_refusal S name =
    first
    (part_field name
    ∷ no_part S name
    ∷ when (is_whole (group name S.items)) 18
    ∷ [])

-- FOR AN ENGINE that counts what pieces charge: the bytes of the suffixes before the number k, of n pieces in all
unfoldable pub suffix_sum : ℕ → ℕ → ℕ
suffix_sum n zero = 0
suffix_sum n (suc k) = suffix_sum n k + length (spelled [] (Piece k (eqb (suc k) n)))
