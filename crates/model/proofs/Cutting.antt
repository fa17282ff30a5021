-- A cut and a join keep the package good.
-- Assumes nothing.
use Prim.Native.Nat.{ℕ, ◌+◌, ◌≤◌, ◌<◌}
use mathlib.Core.Path.{◌≡◌, sym, ap, subst, ◌∙◌}
use mathlib.Core.Bool.{true, false, true≢false}
use mathlib.Core.List.{List, [], ◌∷◌, ◌++◌, flat_map}
use native.Mathlib.Omega.{arith}
use lib.ListN.{length, length-append}
use Rattle.base.proofs.Bools.{not_passing}
use Rattle.chars.specs.Folding.{equivalent, derivable}
use Rattle.chars.proofs.Equivalence.{equivalent_sym, equivalent_trans}
use Rattle.names.specs.Names.{part_name, reserved}
use Rattle.model.specs.Sets.{Bytes, filter, sum_of, Each, AllPairs, Sorted}
use Rattle.model.specs.Fields.{prefix_of}
use Rattle.model.specs.Package.{Item, State, item_kind, item_limit, item_charge, key_of_item, charge, group, content, spelling}
use Rattle.model.specs.Cutting.{pieces, joined_item, with_all, regrouped, cut_made, join_made, cut_refusal, join_refusal}
use Rattle.model.specs.Good.{Beside, Good}
use Rattle.model.proofs.Lists.{each_map, each_both, each_left, each_filter}
use Rattle.model.proofs.Appends.{pairs_right, pairs_across}
use Rattle.model.proofs.ItemNames.{accepted_prefix, prefix_short}
use Rattle.model.proofs.Items.{beside_comm}
use Rattle.model.proofs.KindLaws.{item_lawful}
use Rattle.model.proofs.Groups.{alike, unlike}
use Rattle.model.proofs.Exchanges.{Below, Above, Around, below_unlike, above_unlike, front, back, around_group, around_new, each_new, pairs_new}
use Rattle.model.proofs.Exchanges.{sorted_new, exchanged, length_regrouped, charge_regrouped}
use Rattle.model.proofs.Pieces.{own_prefix, own_field, pieces_prefix, pieces_fielded, pieces_sorted, pieces_beside}
use Rattle.model.proofs.Wholes.{part_some, spelled_each}
use Rattle.model.proofs.CutRefusals.{cut_part, cut_high, cut_few, cut_within, join_part}

-- OTHER ITEMS IN A GROUP'S PLACE. An item stands beside one of another group if no prefix is derivable from the other
other_beside : (p : Bytes) (i j : Item) → alike p i ≡ true → alike p j ≡ false → derivable (prefix_of i.name) (prefix_of j.name) ≡ false →
    derivable (prefix_of j.name) (prefix_of i.name) ≡ false → Beside i j
other_beside p i j m u d e = record {
  alone = λ _. other;
  numbered = λ f _. true≢false (sym f ∙ other);
  underived = (d, e);
  agreeing = λ f. absurd (true≢false (sym f ∙ other));
}
  where
    x : Bytes
    x = prefix_of i.name

    y : Bytes
    y = prefix_of j.name

    other : equivalent x y ≡ false
    other = not_passing (equivalent x y) (λ f. true≢false (sym (equivalent_trans y x p (equivalent_sym x y f) m) ∙ u))

module _ (S : State) (G : Good S) (name : Bytes) (some : 0 < length (group name S.items)) where
  abbrev g : List Item
  g = group name S.items

  -- the group's spelling is that of a part, and equivalent to the name
  held_prefix : (part_name (spelling g) ≡ true) × ((reserved (spelling g) ≡ false) × (equivalent (spelling g) name ≡ true))
  unfolding group
  held_prefix =
      spelled_each (λ (q : Bytes). (part_name q ≡ true) × ((reserved q ≡ false) × (equivalent q name ≡ true))) g some
      (each_filter (λ (i : Item). item_kind.fields i ≡ 0)
      (λ (i : Item). (part_name (prefix_of i.name) ≡ true) × ((reserved (prefix_of i.name) ≡ false) × (equivalent (prefix_of i.name) name ≡ true)))
      (alike name) S.items
      (λ i m f. let a = accepted_prefix i.name f in (a.0, (a.1, m))) G.items.fielded)

  pub group_named : part_name (spelling g) ≡ true
  group_named = held_prefix.0

  pub group_unreserved : reserved (spelling g) ≡ false
  group_unreserved = held_prefix.1.0

  pub group_spelled : equivalent (spelling g) name ≡ true
  group_spelled = held_prefix.1.1

  -- items that have the group's spelling are of the group
  pub spelled_alike : (new : List Item) → Each (λ (i : Item). prefix_of i.name ≡ spelling g) new → Each (λ (i : Item). alike name i ≡ true) new
  spelled_alike new h =
      each_map (λ (i : Item). prefix_of i.name ≡ spelling g) (λ (i : Item). alike name i ≡ true) new
      (λ i e. ap (λ (q : Bytes). equivalent q name) e ∙ group_spelled) h

  -- ITS PLACE: a stands before it, b behind it, and no prefix there is derivable from the group's spelling, nor this from that
  abbrev a : List Item
  a = front name S.items

  abbrev b : List Item
  b = back name S.items

  pub group_around : Around name S.items (front name S.items) (group name S.items) (back name S.items)
  group_around = around_group name S.items G.items.sorted some

  held : AllPairs Beside (a ++ (g ++ b))
  held = subst (AllPairs Beside) group_around.is G.beside

  Apart : Bytes → Item → Type 0
  Apart q j = (derivable q (prefix_of j.name) ≡ false) × (derivable (prefix_of j.name) q ≡ false)

  left_apart : Each (Apart (spelling g)) a
  unfolding Apart
  left_apart =
      each_map (λ (j : Item). Each (Beside j) (g ++ b)) (Apart (spelling g)) a
      (λ j h. spelled_each (λ (q : Bytes). Apart q j) g some
      (each_map (Beside j) (λ (i : Item). Apart (prefix_of i.name) j) g (λ i k. (beside_comm j i k).underived) (each_left (Beside j) g b h)))
      (pairs_across Beside a (g ++ b) held)

  right_apart : Each (Apart (spelling g)) b
  unfolding Apart
  right_apart =
      spelled_each (λ (q : Bytes). Each (Apart q) b) g some
      (each_map (λ (i : Item). Each (Beside i) b) (λ (i : Item). Each (Apart (prefix_of i.name)) b) g
      (λ i h. each_map (Beside i) (Apart (prefix_of i.name)) b (λ j k. k.underived) h)
      (pairs_across Beside g b (pairs_right Beside a (g ++ b) held)))

  new_beside : (i j : Item) → prefix_of i.name ≡ spelling g → alike name j ≡ false → Apart (spelling g) j → Beside i j
  unfolding Apart
  new_beside i j e u d =
      other_beside name i j (ap (λ (q : Bytes). equivalent q name) e ∙ group_spelled) u
      (ap (λ (q : Bytes). derivable q (prefix_of j.name)) e ∙ d.0) (ap (derivable (prefix_of j.name)) e ∙ d.1)

  -- NEW ITEMS of that spelling, in that place
  module _ (new : List Item) (h : Each (λ (i : Item). prefix_of i.name ≡ spelling (group name S.items)) new) where
    beside_new : AllPairs Beside new → AllPairs Beside (a ++ (new ++ b))
    beside_new k =
        pairs_new group_around new (spelled_alike new h) Beside G.beside k
        (each_both (Below name) (Apart (spelling g)) (λ (j : Item). Each (Beside j) new) a
        (λ j l d. each_map (λ (i : Item). prefix_of i.name ≡ spelling g) (Beside j) new
        (λ i e. beside_comm i j (new_beside i j e (below_unlike name j l) d)) h) group_around.below left_apart)
        (each_map (λ (i : Item). prefix_of i.name ≡ spelling g) (λ (i : Item). Each (Beside i) b) new
        (λ i e. each_both (Above name) (Apart (spelling g)) (Beside i) b (λ j l d. new_beside i j e (above_unlike name j l) d)
        group_around.above right_apart) h)

    module _ (s : Sorted key_of_item new) where
      placed : (regrouped S name new).items ≡ a ++ (new ++ b)
      placed = exchanged group_around new (spelled_alike new h) s

      pub regrouped_around : Around name (regrouped S name new).items (front name S.items) new (back name S.items)
      regrouped_around = subst (λ (l : List Item). Around name l a new b) (sym placed) (around_new group_around new (spelled_alike new h))

  -- so the package stays good, if it has the room
  pub regrouped_good :
      (new : List Item) → Each (λ (i : Item). prefix_of i.name ≡ spelling g) new → Sorted key_of_item new → AllPairs Beside new →
      Each (λ (i : Item). item_kind.fields i ≡ 0) new → length (regrouped S name new).items ≤ item_limit →
      charge (regrouped S name new) ≤ S.capacity → Good (regrouped S name new)
  regrouped_good new h s k f few within =
      let m = spelled_alike new h in
      let e = sym (placed new h s) in
      item_lawful.good S (with_all new (filter (unlike name) S.items)) G
      (record {
        sorted = subst (Sorted key_of_item) e (sorted_new group_around new m G.items.sorted s);
        few = few;
        fielded = subst (Each (λ (i : Item). item_kind.fields i ≡ 0)) e (each_new group_around new m (λ (i : Item). item_kind.fields i ≡ 0) G.items.fielded f);
      })
      within
      (subst (AllPairs Beside) e (beside_new new h k))

-- CUTTING
module _ (S : State) (G : Good S) (name : Bytes) (n : ℕ) (some : 0 < length (group name S.items)) (high : n ≤ 256) where
  pub cut_prefixes : Each (λ (i : Item). prefix_of i.name ≡ spelling (group name S.items)) (pieces (group name S.items) n)
  unfolding pieces
  cut_prefixes = pieces_prefix (spelling (group name S.items)) (group_named S G name some) _ _ n 0 _ (omega arith)

  pub cut_sorted : Sorted key_of_item (pieces (group name S.items) n)
  unfolding pieces
  cut_sorted = pieces_sorted (spelling (group name S.items)) (group_named S G name some) _ _ n 0 _ (omega arith)

  cut_beside : AllPairs Beside (pieces (group name S.items) n)
  unfolding pieces
  cut_beside = pieces_beside (spelling (group name S.items)) (group_named S G name some) _ _ n 0 _ (omega arith)

  cut_fielded : Each (λ (i : Item). item_kind.fields i ≡ 0) (pieces (group name S.items) n)
  unfolding pieces
  cut_fielded = pieces_fielded (spelling (group name S.items)) (group_named S G name some) _ _ (group_unreserved S G name some) n 0 _ (omega arith)

pub cut_good : (S : State) (name : Bytes) (n : ℕ) → Good S → cut_refusal S name n ≡ 0 → Good (cut_made S name n)
cut_good S name n G c =
    let some = part_some (group name S.items) (cut_part S name n c) in
    let high = cut_high S name n c in
    regrouped_good S G name some (pieces (group name S.items) n) (cut_prefixes S G name n some high) (cut_sorted S G name n some high)
    (cut_beside S G name n some high) (cut_fielded S G name n some high) (cut_few S name n c) (cut_within S name n c)

-- JOINING. The one item charges no more than its pieces
content_charged : (k : List Item) → length (content k) ≤ sum_of item_charge k
unfolding content flat_map sum_of
content_charged [] = omega arith
content_charged (i ∷ k) = omega (arith, length-append i.bytes (content k), content_charged k)

pub joined_charged : (k : List Item) → length (spelling k) + length (content k) ≤ sum_of item_charge k
unfolding spelling content flat_map sum_of
joined_charged [] = omega arith
joined_charged (i ∷ k) = omega (arith, length-append i.bytes (content k), content_charged k, prefix_short i.name)

pub join_good : (S : State) (name : Bytes) → Good S → join_refusal S name ≡ 0 → Good (join_made S name)
unfolding sum_of
join_good S name G c =
    let k = group name S.items in
    let new = joined_item k ∷ [] in
    let some = part_some k (join_part S name c) in
    let p = group_named S G name some in
    regrouped_good S G name some new (own_prefix (spelling k) p, tt) (tt, tt) (tt, tt) (own_field (spelling k) p (group_unreserved S G name some), tt)
    (omega (arith, length_regrouped S name new, G.items.few))
    (omega (arith, charge_regrouped S name new, joined_charged k, G.within))
