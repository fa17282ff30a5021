-- The rows of a part's items, made one: the first gets the name of the joined item and takes up the others.
-- Assumes nothing.
use Prim.Native.Nat.{ℕ, ◌+◌, ◌-◌, ◌≤◌, ◌<◌}
use mathlib.Core.Path.{◌≡◌, refl, sym, ap, subst, ◌∙◌}
use mathlib.Core.Bool.{true}
use mathlib.Core.List.{List, [], ◌∷◌, ◌++◌, map, flat_map, append-nil}
use native.Mathlib.Numerals.{add-one}
use native.Mathlib.Omega.{arith}
use lib.ListN.{length, get_or, take, drop, length-drop, length-map, drop_of_length-le}
use lib.Seq.{length-take-le, take-suc, take_all, drop-cons, drop-length}
use Rattle.names.specs.Names.{part_name}
use Rattle.names.proofs.Lengths.{name_some}
use Rattle.model.specs.Sets.{Bytes, Each}
use Rattle.model.specs.Fields.{prefix_of}
use Rattle.model.specs.Package.{Item, State, item_kind, group, is_part, content, spelling}
use Rattle.model.specs.Cutting.{joined_item, join_made}
use Rattle.model.proofs.Lists.{each_at, each_take, each_drop}
use Rattle.model.proofs.Appends.{run_split}
use Rattle.model.proofs.ItemNames.{accepted_prefix}
use Rattle.model.proofs.Pieces.{own_prefix, own_suffix}
use Rattle.model.proofs.Wholes.{part_some}
use Rattle.model.proofs.Cutting.{group_named}
use Rattle.model.proofs.CutRuns.{join_run}
use Rattle.model.proofs.Joins.{flat_map_append, flat_map_map}
use Rattle.store.specs.Rows.{Row, no_row, with_bytes, respelled}
use Rattle.contract.specs.Rows.{item_row, other_rows}
use Rattle.contract.specs.Holds.{Lies, Holds}
use Rattle.pieces.specs.Rowed.{Rowed, Renamed, Absorbed}
use Rattle.pieces.specs.Joins.{Merged}
use Rattle.pieces.proofs.PackageRows.{lies_rowed, rowed_lies, rows_around, rowed_room}

-- ROWS TAKEN UP: a row of an item has a name and nothing behind its bytes
abbrev Lone : Row → Type 0
Lone w = (w.f3 ≡ []) × (0 < length w.f0)

abbrev joined_bytes : List Row → Bytes
joined_bytes rs = flat_map (λ (w : Row). w.f2) rs

joined_more : (k : ℕ) (g : List Row) → k < length g → joined_bytes (take (k + 1) g) ≡ joined_bytes (take k g) ++ (get_or g k no_row).f2
unfolding flat_map
joined_more k g l =
    ap (λ (j : ℕ). joined_bytes (take j g)) (add-one k) ∙ ap joined_bytes (take-suc g k no_row l)
    ∙ flat_map_append (λ (w : Row). w.f2) (take k g) (get_or g k no_row ∷ [])
    ∙ ap (λ (s : Bytes). joined_bytes (take k g) ++ s) (append-nil (get_or g k no_row).f2)

-- the row r of b holds in m the bytes of k rows, its own among them
pub record TakenUp (b m : List ℕ) (r k : ℕ) : Type 0 where
  pub is : (c : ℕ) (before : List Row) (x : Row) (ys behind : List Row) → Rowed b c (before ++ (x ∷ ys ++ behind)) → length before ≡ r
      → Each Lone (x ∷ ys) → k ≤ length (x ∷ ys)
      → Rowed m c (before ++ (with_bytes x (joined_bytes (take k (x ∷ ys))) ∷ (drop k (x ∷ ys) ++ behind)))

pub taken_own : (b : List ℕ) (r : ℕ) → TakenUp b b r 1
unfolding flat_map
taken_own b r = record {
  is = λ c before x ys behind w e l q. subst (λ (s : Bytes). Rowed b c (before ++ (with_bytes x s ∷ (ys ++ behind)))) (sym (append-nil x.f2)) w;
}

pub taken_up_more : (b m o : List ℕ) (r k : ℕ) → TakenUp b m r k → Absorbed m o r → TakenUp b o r (k + 1)
taken_up_more b m o r k T A = record {
  is = λ c before x ys behind w e l q.
      let g : List Row = x ∷ ys in
      let y : Row = get_or g k no_row in
      let s : Bytes = joined_bytes (take k g) in
      let u : k < length g = omega arith in
      let d : drop k g ++ behind ≡ y ∷ (drop (k + 1) g ++ behind) =
      ap (λ (rs : List Row). rs ++ behind) (drop-cons g k no_row u ∙ ap (λ (j : ℕ). y ∷ drop j g) (sym (add-one k))) in
      let lone = each_at Lone g k no_row u l in
      subst (λ (t : Bytes). Rowed o c (before ++ (with_bytes x t ∷ (drop (k + 1) g ++ behind)))) (sym (joined_more k g u))
      (A.is c before (with_bytes x s) y (drop (k + 1) g ++ behind)
      (subst (λ (rs : List Row). Rowed m c (before ++ (with_bytes x s ∷ rs))) d (T.is c before x ys behind w e l (omega arith)))
      e l.0.0 lone.0 lone.1);
}

-- THE ITEMS OF A PACKAGE as such rows
named_rows : (g : List Item) → Each (λ (i : Item). item_kind.fields i ≡ 0) g → Each Lone (map item_row g)
unfolding item_row
named_rows [] h = tt
named_rows (i ∷ g) h = ((refl, name_some (prefix_of i.name) (accepted_prefix i.name h.0).0), named_rows g h.1)

-- the row of the joined item
joined_row : (i : Item) (g : List Item) → part_name (spelling (i ∷ g)) ≡ true →
    with_bytes (respelled (item_row i) 0 []) (joined_bytes (respelled (item_row i) 0 [] ∷ map item_row g)) ≡ item_row (joined_item (i ∷ g))
unfolding item_row spelling content flat_map
joined_row i g h =
    let p = prefix_of i.name in
    rw (own_prefix p h, own_suffix p h, drop-length p, flat_map_map item_row (λ (w : Row). w.f2) (λ (i : Item). i.bytes) (λ i. refl) g)

-- THE PART of the name stands in the n rows from r on; the first of them gets the new name, then takes up the others
module _ (b m o : List ℕ) (r n k : ℕ) (N : Renamed b m r 0 []) (T : TakenUp m o r k) (low : n ≤ k) (high : 0 < n → k ≤ n) where
  module _ (S : State) (name : Bytes) (h : Holds b S) (p : is_part (group name S.items) ≡ true) (l : r + n ≤ length S.items)
      (e : group name S.items ≡ take n (drop r S.items)) where
    abbrev a : List Item
    a = take r S.items

    abbrev z : List Item
    z = drop (r + n) S.items

    here : r + n - r ≡ n
    here = omega arith

    run_is : group name S.items ≡ take (r + n - r) (drop r S.items)
    run_is = e ∙ ap (λ (j : ℕ). take j (drop r S.items)) (sym here)

    before_length : length (map item_row a) ≡ r
    before_length = length-map a item_row ∙ length-take-le r S.items (omega arith)

    size : length (group name S.items) ≡ n
    size = ap length e ∙ length-take-le n (drop r S.items) (rw length-drop (omega arith))

    fielded : Each (λ (i : Item). item_kind.fields i ≡ 0) (group name S.items)
    fielded =
        subst (Each (λ (i : Item). item_kind.fields i ≡ 0)) (sym e)
        (each_take (λ (i : Item). item_kind.fields i ≡ 0) n (drop r S.items)
        (each_drop (λ (i : Item). item_kind.fields i ≡ 0) r S.items h.good.items.fielded))

    one : (i : Item) (g : List Item) → group name S.items ≡ i ∷ g →
        Rowed o S.capacity (map item_row a ++ (item_row (joined_item (i ∷ g)) ∷ (map item_row z ++ other_rows S)))
    unfolding item_row
    one i g f =
        let c = S.capacity in
        let x : Row = respelled (item_row i) 0 [] in
        let ys : List Row = map item_row g in
        let behind : List Row = map item_row z ++ other_rows S in
        let lone : Each Lone (map item_row (i ∷ g)) = named_rows (i ∷ g) (subst (Each (λ (i : Item). item_kind.fields i ≡ 0)) f fielded) in
        let held : S.items ≡ a ++ (i ∷ g ++ z) =
        sym (run_split r (r + n) S.items (omega arith)) ∙ ap (λ (q : List Item). a ++ (q ++ z)) (sym run_is ∙ f) in
        let w : Rowed b c (map item_row a ++ (item_row i ∷ (ys ++ behind))) = subst (Rowed b c) (rows_around S a (i ∷ g) z held) (lies_rowed b S h.lies) in
        let v : Rowed m c (map item_row a ++ (x ∷ (ys ++ behind))) =
        N.is c (map item_row a) (item_row i) (ys ++ behind) w before_length lone.0.0 lone.0.1 (omega (arith, rowed_room b c _ w)) in
        let all : k ≡ length (x ∷ ys) = omega (arith, high (omega (arith, size, ap length f)), size, ap length f, length-map g item_row) in
        let u = T.is c (map item_row a) x ys behind v before_length (lone.0, lone.1) (omega arith) in
        let j : with_bytes x (joined_bytes (take k (x ∷ ys))) ≡ item_row (joined_item (i ∷ g)) =
        ap (λ (rs : List Row). with_bytes x (joined_bytes rs)) (take_all k (x ∷ ys) (omega arith)) ∙ joined_row i g named in
        subst (λ (q : Row). Rowed o c (map item_row a ++ (q ∷ behind))) j
        (subst (λ (rs : List Row). Rowed o c (map item_row a ++ (with_bytes x (joined_bytes (take k (x ∷ ys))) ∷ (rs ++ behind))))
        (drop_of_length-le (x ∷ ys) {i = k} (omega arith)) u)
      where
        named : part_name (spelling (i ∷ g)) ≡ true
        named = subst (λ (q : List Item). part_name (spelling q) ≡ true) f (group_named S h.good name (part_some (group name S.items) p))

    made : (g : List Item) → group name S.items ≡ g → Lies o (join_made S name)
    unfolding other_rows
    made [] f = absurd (omega (arith, part_some (group name S.items) p, ap length f))
    made (i ∷ g) f =
        let new : (join_made S name).items ≡ a ++ (joined_item (i ∷ g) ∷ [] ++ z) =
        join_run S h.good name r (r + n) (omega arith) run_is p ∙ ap (λ (q : List Item). a ++ (joined_item q ∷ z)) f in
        rowed_lies o (join_made S name) (subst (Rowed o S.capacity) (sym (rows_around (join_made S name) a (joined_item (i ∷ g) ∷ []) z new)) (one i g f))

  pub merged : Merged b o r n
  merged = record { is = λ S name h p l e. made S name h p l e (group name S.items) refl }
