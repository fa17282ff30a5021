-- Which held items a new one has to be compared with for 12: the two beside its place.
-- Assumes nothing.
use Prim.Native.Nat.{ℕ, ◌-◌, ◌≤◌, ◌<◌}
use mathlib.Core.Path.{◌≡◌, refl, ap, ap₂, sym, ◌∙◌}
use mathlib.Core.Bool.{Bool, true, false, ◌&&◌, ◌||◌, true≢false}
use mathlib.Core.List.{List}
use native.Mathlib.Omega.{arith}
use lib.Dec.{ltb}
use lib.ListN.{length, get_or, take, drop, take-append-drop}
use borrow.Author.Tests.{ltb-true, lt-ltb, le-ltb}
use Rattle.chars.specs.Folding.{fold, order}
use Rattle.base.proofs.Bools.{and_left, and_right, and_true}
use Rattle.chars.proofs.Equivalence.{equivalent_fold, fold_equivalent}
use Rattle.names.specs.declared.items.Suffix.{Suffix}
use Rattle.names.specs.declared.items.Suffix.TheVariants.{Whole, Piece}
use Rattle.model.specs.Sets.{Bytes, before, same_key, any, Each, AllPairs, Sorted}
use Rattle.model.specs.Places.{place}
use Rattle.model.specs.Fields.{prefix_of, suffix_of}
use Rattle.model.specs.Package.{Item, rank, item_key, key_of_item, group, disagrees}
use Rattle.model.specs.Good.{Beside}
use Rattle.model.proofs.Lists.{each_both, each_take, pairs_map, pairs_take, pairs_drop, pairs_both, pairs_each, any_last, any_head, any_filter, any_append, last_of_take, head_of_drop}
use Rattle.model.proofs.Walks.{first_le, first_fails, first_rest}
use Rattle.model.proofs.KeyOrders.{before_turn, between, goes_on_less}
use Rattle.model.proofs.Keys.{number_less}
use Rattle.model.proofs.Sets.{Absent}
use Rattle.model.proofs.Places.{greater_monotone}
use Rattle.model.proofs.Groups.{alike}

-- SUFFIXES. x disagrees with y only if it also does with w, which stands behind y and agrees with it
disagrees_behind : (x y w : Suffix) → rank y < rank w → disagrees y w ≡ false → disagrees x y ≡ true → disagrees x w ≡ true
disagrees_behind x y Whole l a d = absurd (omega arith)
disagrees_behind Whole y (Piece j' m') l a d = refl
disagrees_behind (Piece k b) Whole (Piece j' m') l a d = absurd (true≢false a)
disagrees_behind (Piece k b) (Piece j m) (Piece j' m') l a d = go b m m' (rw (lt-ltb j j' (omega arith)) at a) d
  where
    go :
        (b m m' : Bool) → (m && m' || m' && ltb j' j || m && true) ≡ false → (b && m || m && ltb j k || b && ltb k j) ≡ true →
        (b && m' || m' && ltb j' k || b && ltb k j') ≡ true
    go b true true a d = absurd (true≢false a)
    go b true false a d = absurd (true≢false a)
    go true false true a d = refl
    go true false false a d = let n : k < j = ltb-true k j d in lt-ltb k j' (omega arith)
    go false false m' a d = absurd (true≢false (sym d))

-- x disagrees with y only if it also does with z, which stands between the two
disagrees_between : (x z y : Suffix) → rank x < rank z → rank z < rank y → disagrees x y ≡ true → disagrees x z ≡ true
disagrees_between x Whole y l n d = absurd (omega arith)
disagrees_between x (Piece j m) Whole l n d = absurd (omega arith)
disagrees_between Whole (Piece j m) (Piece j' m') l n d = refl
disagrees_between (Piece k b) (Piece j m) (Piece j' m') l n d = go b m m' (rw (le-ltb j' k (omega arith)) at d)
  where
    go : (b m m' : Bool) → (b && m' || m' && false || b && ltb k j') ≡ true → (b && m || m && ltb j k || b && ltb k j) ≡ true
    go true true m' d = refl
    go true false m' d = lt-ltb k j (omega arith)
    go false m true d = absurd (true≢false (sym d))
    go false m false d = absurd (true≢false (sym d))

-- THE NEIGHBOURS. An item of the group of `name` whose suffix disagrees with that of `name`
abbrev pub clashing : Bytes → Item → Bool
clashing name i = alike (prefix_of name) i && disagrees (suffix_of name) (suffix_of i.name)

module _ (name : Bytes) where
  -- the ranks of two items in order whose keys begin alike
  ranks : (s t : Bytes) → before (item_key s) (item_key t) ≡ true → fold (prefix_of s) ≡ fold (prefix_of t) →
      rank (suffix_of s) < rank (suffix_of t)
  unfolding order
  ranks s t l e = number_less (rank (suffix_of s)) (rank (suffix_of t)) (goes_on_less (item_key s) (item_key t) l e)

  clashes : (i : Item) → fold (prefix_of i.name) ≡ fold (prefix_of name) → disagrees (suffix_of name) (suffix_of i.name) ≡ true →
      clashing name i ≡ true
  clashes i e d = and_true (alike (prefix_of name) i) (disagrees (suffix_of name) (suffix_of i.name))
      (fold_equivalent (prefix_of i.name) (prefix_of name) e) d

  module _ (i j : Item) (l : before (key_of_item i) (key_of_item j) ≡ true) where
    -- both before the new key: where i clashes, so does j
    clashing_below : Beside i j → before (key_of_item j) (item_key name) ≡ true → clashing name i ≡ true → clashing name j ≡ true
    clashing_below r k c =
        let i_n : fold (prefix_of i.name) ≡ fold (prefix_of name) =
        equivalent_fold (prefix_of i.name) (prefix_of name) (and_left (alike (prefix_of name) i) _ c) in
        let i_j : fold (prefix_of i.name) ≡ fold (prefix_of j.name) = between (key_of_item i) (key_of_item j) (item_key name) l k i_n in
        clashes j (sym i_j ∙ i_n)
        (disagrees_behind (suffix_of name) (suffix_of i.name) (suffix_of j.name) (ranks i.name j.name l i_j)
        (r.agreeing (fold_equivalent (prefix_of i.name) (prefix_of j.name) i_j)) (and_right (alike (prefix_of name) i) _ c))

    -- both behind it: where j clashes, so does i
    clashing_above : before (item_key name) (key_of_item i) ≡ true → clashing name j ≡ true → clashing name i ≡ true
    clashing_above k c =
        let j_n : fold (prefix_of j.name) ≡ fold (prefix_of name) =
        equivalent_fold (prefix_of j.name) (prefix_of name) (and_left (alike (prefix_of name) j) _ c) in
        let n_i : fold (prefix_of name) ≡ fold (prefix_of i.name) = between (item_key name) (key_of_item i) (key_of_item j) k l (sym j_n) in
        clashes i (sym n_i)
        (disagrees_between (suffix_of name) (suffix_of i.name) (suffix_of j.name) (ranks name i.name k n_i)
        (ranks i.name j.name l (sym n_i ∙ sym j_n))
        (and_right (alike (prefix_of name) j) _ c))

  module _ (xs : List Item) (s : Sorted key_of_item xs) (b : AllPairs Beside xs) (free : Absent key_of_item (item_key name) xs) (d : Item) where
    n : ℕ
    n = place key_of_item (item_key name) xs

    n_le : n ≤ length xs
    unfolding n
    n_le = first_le (λ (i : Item). before (item_key name) (key_of_item i)) xs

    abbrev Ordered : Item → Item → Type 0
    Ordered i j = before (key_of_item i) (key_of_item j) ≡ true

    abbrev Below : Item → Type 0
    Below i = before (key_of_item i) (item_key name) ≡ true

    abbrev Above : Item → Type 0
    Above i = before (item_key name) (key_of_item i) ≡ true

    below : Each Below (take n xs)
    unfolding n
    below =
        each_both (λ (i : Item). before (item_key name) (key_of_item i) ≡ false) (λ (i : Item). same_key (item_key name) (key_of_item i)
        ≡ false) Below (take n xs)
        (λ i l k. before_turn (item_key name) (key_of_item i) l k) (first_fails (λ (i : Item). before (item_key name) (key_of_item i)) xs)
        (each_take (λ (i : Item). same_key (item_key name) (key_of_item i) ≡ false) n xs free)

    above : Each Above (drop n xs)
    unfolding n
    above = first_rest (λ (i : Item). before (item_key name) (key_of_item i)) xs (greater_monotone key_of_item (item_key name) xs s)

    lower : any (clashing name) (take n xs) ≡ (ltb 0 n && clashing name (get_or xs (n - 1) d))
    lower =
        any_last (clashing name) (take n xs) d
        (pairs_map (λ (i j : Item). (Ordered i j × Beside i j) × (Below i × Below j)) (λ (i j : Item). clashing name i ≡ true →
        clashing name j ≡ true) (take n xs)
        (λ i j h c. clashing_below i j h.0.0 h.0.1 h.1.1 c)
        (pairs_both (λ (i j : Item). Ordered i j × Beside i j) (λ (i j : Item). Below i × Below j) (take n xs)
        (pairs_both Ordered Beside (take n xs) (pairs_take Ordered n xs s) (pairs_take Beside n xs b))
        (pairs_each Below (take n xs) below)))
        ∙ last_of_take (clashing name) n xs d n_le

    upper : any (clashing name) (drop n xs) ≡ (ltb n (length xs) && clashing name (get_or xs n d))
    upper =
        any_head (clashing name) (drop n xs) d
        (pairs_map (λ (i j : Item). Ordered i j × (Above i × Above j)) (λ (i j : Item). clashing name j ≡ true → clashing name i ≡ true)
        (drop n xs)
        (λ i j h c. clashing_above i j h.0 h.1.0 c)
        (pairs_both Ordered (λ (i j : Item). Above i × Above j) (drop n xs) (pairs_drop Ordered n xs s)
        (pairs_each Above (drop n xs) above)))
        ∙ head_of_drop (clashing name) n xs d

    -- where no item has the key of `name`: its suffix disagrees with some item of its group if and only if it disagrees with one that
    -- stands
    -- directly before or behind its place
    pub disagrees_neighbours :
        any (λ (i : Item). disagrees (suffix_of name) (suffix_of i.name)) (group (prefix_of name) xs)
        ≡ (ltb 0 (place key_of_item (item_key name) xs) && clashing name (get_or xs (place key_of_item (item_key name) xs - 1) d)
        || ltb (place key_of_item (item_key name) xs) (length xs) && clashing name (get_or xs (place key_of_item (item_key name) xs) d))
    unfolding group n
    disagrees_neighbours =
        any_filter (λ (i : Item). disagrees (suffix_of name) (suffix_of i.name)) (alike (prefix_of name)) xs
        ∙ ap (any (clashing name)) (sym (take-append-drop n xs))
        ∙ any_append (clashing name) (take n xs) (drop n xs)
        ∙ ap₂ ◌||◌ lower upper
