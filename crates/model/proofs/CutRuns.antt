-- A cut and a join by rows and by numbers: where the new items stand, how many items there are then, and what they charge.
-- Assumes nothing.
use Prim.Native.Nat.{ℕ, ◌+◌, ◌-◌, ◌*◌, ◌≤◌, ◌<◌}
use mathlib.Core.Path.{◌≡◌, ap, ◌∙◌}
use mathlib.Core.Bool.{true}
use mathlib.Core.List.{List, [], ◌∷◌, ◌++◌}
use native.Mathlib.Omega.{arith}
use lib.ListN.{length, take, drop, length-take, length-drop}
use Rattle.model.specs.Sets.{Bytes, sum_of, Each, Sorted}
use Rattle.model.specs.Package.{Item, State, key_of_item, item_charge, charge, group, is_part, content, spelling}
use Rattle.model.specs.Cutting.{is_whole, pieces, joined_item, regrouped, cut_made, join_made, suffix_sum}
use Rattle.model.specs.Good.{Good}
use Rattle.model.proofs.Groups.{alike}
use Rattle.model.proofs.Exchanges.{around_run, exchanged, length_regrouped, charge_regrouped}
use Rattle.model.proofs.Pieces.{own_prefix}
use Rattle.model.proofs.PieceBytes.{length_pieces, pieces_charge}
use Rattle.model.proofs.Wholes.{part_some, whole_one, whole_part}
use Rattle.model.proofs.Cutting.{group_named, spelled_alike, cut_prefixes, cut_sorted}

-- BY ROWS. The group stands in the rows from f to t, t itself not included: so do then the new items of that group
module _ (S : State) (G : Good S) (name : Bytes) (f t : ℕ) (order : f ≤ t) (is : group name S.items ≡ take (t - f) (drop f S.items)) where
  pub regroup_run : 0 < length (group name S.items) → (new : List Item) → Each (λ (i : Item). alike name i ≡ true) new → Sorted key_of_item new →
      (regrouped S name new).items ≡ take f S.items ++ (new ++ drop t S.items)
  regroup_run some new m s = exchanged (around_run name S.items G.items.sorted some f t order is) new m s

  -- a whole part stands in one row
  pub whole_run : t ≤ length S.items → is_part (group name S.items) ≡ true → is_whole (group name S.items) ≡ true → t ≡ f + 1
  whole_run l p w =
      let n = t - f in
      omega (
        arith,
        whole_one (group name S.items) p w,
        ap length is,
        length-take n (drop f S.items),
        length-drop f S.items,
      )

  pub cut_run : (n : ℕ) → t ≤ length S.items → is_part (group name S.items) ≡ true → is_whole (group name S.items) ≡ true → n ≤ 256 →
      (cut_made S name n).items ≡ take f S.items ++ (pieces (group name S.items) n ++ drop (f + 1) S.items)
  cut_run n l p w high =
      let g = group name S.items in
      let some = part_some g p in
      regroup_run some (pieces g n) (spelled_alike S G name some (pieces g n) (cut_prefixes S G name n some high)) (cut_sorted S G name n some high)
      ∙ ap (λ (k : ℕ). take f S.items ++ (pieces g n ++ drop k S.items)) (whole_run l p w)

  pub join_run : is_part (group name S.items) ≡ true →
      (join_made S name).items ≡ take f S.items ++ (joined_item (group name S.items) ∷ drop t S.items)
  join_run p =
      let g = group name S.items in
      let some = part_some g p in
      let new = joined_item g ∷ [] in
      regroup_run some new (spelled_alike S G name some new (own_prefix (spelling g) (group_named S G name some), tt)) (tt, tt)

-- BY NUMBERS. A whole part that is cut into n pieces
module _ (S : State) (name : Bytes) (n : ℕ) (p : is_part (group name S.items) ≡ true) (w : is_whole (group name S.items) ≡ true) where
  pub cut_length : length (cut_made S name n).items + 1 ≡ length S.items + n
  cut_length =
      let g = group name S.items in
      omega (arith, length_regrouped S name (pieces g n), whole_one g p w, length_pieces g n)

  pub cut_charge : 0 < n → charge (cut_made S name n) + length (spelling (group name S.items))
      ≡ charge S + (n * length (spelling (group name S.items)) + suffix_sum n n)
  cut_charge some =
      let g = group name S.items in
      let o = whole_part g p w in
      omega (
        arith,
        charge_regrouped S name (pieces g n),
        pieces_charge g n some,
        o.charged,
        ap length o.spelled,
        ap length o.held,
      )

-- a part that is joined
pub join_length : (S : State) (name : Bytes) → length (join_made S name).items + length (group name S.items) ≡ length S.items + 1
join_length S name = length_regrouped S name (joined_item (group name S.items) ∷ [])

pub join_charge : (S : State) (name : Bytes) →
    charge (join_made S name) + sum_of item_charge (group name S.items)
    ≡ charge S + (length (spelling (group name S.items)) + length (content (group name S.items)))
unfolding sum_of
join_charge S name = omega (arith, charge_regrouped S name (joined_item (group name S.items) ∷ []))
