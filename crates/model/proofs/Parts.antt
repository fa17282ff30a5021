-- The groups and the parts of a sorted list of items, one after the other in folded order.
-- Assumes nothing.
use Prim.Native.Nat.{ℕ, zero, suc, ◌≤◌, ◌<◌}
use mathlib.Core.Path.{◌≡◌, refl, ap, ap₂, sym, ◌∙◌, subst}
use mathlib.Core.Bool.{true, false, not, cond, true≢false}
use mathlib.Core.List.{List, [], ◌∷◌, ◌++◌, map, append-nil, map-append}
use native.Mathlib.Omega.{arith}
use lib.ListN.{length, take, drop, take-append-drop, length-drop, length-map}
use Rattle.chars.specs.Folding.{fold, equivalent, order}
use Rattle.std.specs.declared.cmp.Ordering.TheVariants.{Less}
use Rattle.chars.proofs.Equivalence.{equivalent_fold, fold_equivalent}
use Rattle.names.specs.Names.{part_name, reserved}
use Rattle.model.specs.Sets.{Bytes, before, filter, Each, AllPairs, Sorted}
use Rattle.model.specs.Places.{lead}
use Rattle.model.specs.Fields.{prefix_of}
use Rattle.model.specs.Package.{Item, State, key_of_item, group, is_part, spelling, leaders, groups, parts, item_kind}
use Rattle.model.specs.Good.{Good}
use Rattle.base.proofs.Bools.{not_passing}
use Rattle.model.proofs.Lists.{each_map, each_both, each_drop, pairs_drop, map_each, filter_append, filter_all, filter_none, filter_filter, each_filter, pairs_filter, length_filter}
use Rattle.model.proofs.Appends.{each_swap}
use Rattle.model.proofs.Walks.{lead_take}
use Rattle.model.proofs.KeyOrders.{begins_less}
use Rattle.model.proofs.ItemNames.{accepted_prefix}
use Rattle.model.proofs.Items.{equivalent_comm}
use Rattle.model.proofs.Groups.{alike, unlike, own, alike_same, group_past, group_from}

pub each_leaders : (P : Item → Type 0) (xs : List Item) → Each P xs → Each P (leaders xs)
unfolding leaders
each_leaders P [] h = tt
each_leaders P (x ∷ xs) h = (h.0, each_filter P P (unlike (prefix_of x.name)) (leaders xs) (λ y e k. k) (each_leaders P xs h.1))

-- items of one group lead no other
leaders_past : (p : Bytes) (xs ys : List Item) → Each (λ (i : Item). alike p i ≡ true) xs → filter (unlike p) (leaders (xs ++ ys))
    ≡ filter (unlike p) (leaders ys)
unfolding leaders filter
leaders_past p [] ys h = refl
leaders_past p (x ∷ xs) ys h =
    rw h.0
    (filter_filter (unlike p) (unlike (prefix_of x.name)) (leaders (xs ++ ys))
    (λ z. ap not (alike_same p (prefix_of x.name) (sym (equivalent_fold (prefix_of x.name) p h.0)) z))
    ∙ leaders_past p xs ys h.1)

-- and are in no other
other_group : (p q : Bytes) (xs ys : List Item) → Each (λ (i : Item). alike p i ≡ true) xs → equivalent q p ≡ false →
    group q (xs ++ ys) ≡ group q ys
unfolding group
other_group p q xs ys h n =
    filter_append (alike q) xs ys
    ∙ ap (λ (l : List Item). l ++ filter (alike q) ys)
    (filter_none (alike q) xs (each_map (λ (i : Item). alike p i ≡ true) (λ (i : Item). alike q i ≡ false) xs
    (λ i e. not_passing (alike q i) (both i e)) h))
  where
    both : (i : Item) → alike p i ≡ true → alike q i ≡ true → ⊥
    both i e f = true≢false (sym (fold_equivalent q p (sym (equivalent_fold (prefix_of i.name) q f)
        ∙ equivalent_fold (prefix_of i.name) p e)) ∙ n)

-- the length of the rest of x's group, and what stands behind the group
abbrev pub rest_of : Item → List Item → ℕ
rest_of x ys = lead (alike (prefix_of x.name)) ys

abbrev pub behind : Item → List Item → List Item
behind x ys = drop (rest_of x ys) ys

pub behind_sorted : (x : Item) (ys : List Item) → Sorted key_of_item (x ∷ ys) → Sorted key_of_item (behind x ys)
behind_sorted x ys s = pairs_drop (λ (i j : Item). before (key_of_item i) (key_of_item j) ≡ true) (rest_of x ys) ys s.1

pub behind_shorter : (x : Item) (ys : List Item) (f : ℕ) → length (x ∷ ys) ≤ suc f → length (behind x ys) ≤ f
behind_shorter x ys f l = rw length-drop (omega arith)

module _ (x : Item) (ys : List Item) (s : Sorted key_of_item (x ∷ ys)) where
  pub behind_apart : Each (λ (i : Item). alike (prefix_of x.name) i ≡ false) (behind x ys)
  behind_apart = group_past x (prefix_of x.name) (own x) ys s

  leaders_run : leaders (x ∷ ys) ≡ x ∷ leaders (behind x ys)
  unfolding leaders
  leaders_run =
      ap (λ (l : List Item). x ∷ l)
      (ap (λ (l : List Item). filter (unlike (prefix_of x.name)) (leaders l)) (sym (take-append-drop (rest_of x ys) ys))
      ∙ leaders_past (prefix_of x.name) (take (rest_of x ys) ys) (behind x ys) (lead_take (alike (prefix_of x.name)) ys)
      ∙ filter_all (unlike (prefix_of x.name)) (leaders (behind x ys))
      (each_map (λ (i : Item). alike (prefix_of x.name) i ≡ false) (λ (i : Item). unlike (prefix_of x.name) i ≡ true)
      (leaders (behind x ys)) (λ i e. ap not e)
      (each_leaders (λ (i : Item). alike (prefix_of x.name) i ≡ false) (behind x ys) behind_apart)))

  -- the groups are the runs, one after the other
  pub groups_run : groups (x ∷ ys) ≡ (x ∷ take (rest_of x ys) ys) ∷ groups (behind x ys)
  groups_run =
      ap (map (λ (i : Item). group (prefix_of i.name) (x ∷ ys))) leaders_run
      ∙ ap₂ ◌∷◌ (group_from x (prefix_of x.name) (own x) ys s)
      (map_each (λ (i : Item). group (prefix_of i.name) (x ∷ ys)) (λ (i : Item). group (prefix_of i.name) (behind x ys))
      (leaders (behind x ys))
      (each_leaders Same (behind x ys)
      (each_map (λ (i : Item). alike (prefix_of x.name) i ≡ false) Same (behind x ys) other behind_apart)))
    where
      Same : Item → Type 0
      Same i = group (prefix_of i.name) (x ∷ ys) ≡ group (prefix_of i.name) (behind x ys)

      other : (i : Item) → alike (prefix_of x.name) i ≡ false → Same i
      other i e =
          ap (λ (l : List Item). group (prefix_of i.name) (x ∷ l)) (sym (take-append-drop (rest_of x ys) ys))
          ∙ other_group (prefix_of x.name) (prefix_of i.name) (x ∷ take (rest_of x ys) ys) (behind x ys)
          (own x, lead_take (alike (prefix_of x.name)) ys) e

  pub parts_run : parts (x ∷ ys) ≡ cond (is_part (x ∷ take (rest_of x ys) ys)) ((x ∷ take (rest_of x ys) ys) ∷ parts (behind x ys))
      (parts (behind x ys))
  unfolding parts filter
  parts_run = ap (filter is_part) groups_run

-- PARTS OF TWO LISTS that share no group are the parts of the one, then of the other
module _ (ys : List Item) where
  abbrev pub Strange : Item → Type 0
  Strange i = Each (λ (j : Item). alike (prefix_of i.name) j ≡ false) ys

  leaders_append : (xs : List Item) → Each Strange xs → leaders (xs ++ ys) ≡ leaders xs ++ leaders ys
  unfolding leaders
  leaders_append [] h = refl
  leaders_append (x ∷ xs) h =
      let other = unlike (prefix_of x.name) in
      ap (λ (l : List Item). x ∷ l)
      (ap (filter other) (leaders_append xs h.1)
      ∙ filter_append other (leaders xs) (leaders ys)
      ∙ ap (λ (l : List Item). filter other (leaders xs) ++ l)
      (filter_all other (leaders ys)
      (each_map (λ (i : Item). alike (prefix_of x.name) i ≡ false) (λ (i : Item). other i ≡ true) (leaders ys) (λ i e. ap not e)
      (each_leaders (λ (i : Item). alike (prefix_of x.name) i ≡ false) ys h.0))))

  module _ (xs : List Item) (h : Each Strange xs) where
    groups_append : groups (xs ++ ys) ≡ groups xs ++ groups ys
    unfolding group
    groups_append =
        ap (map (of (xs ++ ys))) (leaders_append xs h)
        ∙ map-append (of (xs ++ ys)) (leaders xs) (leaders ys)
        ∙ ap₂ ◌++◌ (map_each (of (xs ++ ys)) (of xs) (leaders xs) (each_leaders (Same xs) xs (each_map Strange (Same xs) xs left h)))
        (map_each (of (xs ++ ys)) (of ys) (leaders ys)
        (each_leaders (Same ys) ys
        (each_map (λ (j : Item). Each (λ (i : Item). alike (prefix_of i.name) j ≡ false) xs) (Same ys) ys right
        (each_swap (λ (i j : Item). alike (prefix_of i.name) j ≡ false) xs ys h))))
      where
        of : List Item → Item → List Item
        of l i = group (prefix_of i.name) l

        Same : List Item → Item → Type 0
        Same l i = of (xs ++ ys) i ≡ of l i

        left : (i : Item) → Strange i → Same xs i
        left i k =
            filter_append (alike (prefix_of i.name)) xs ys
            ∙ ap (λ (l : List Item). of xs i ++ l) (filter_none (alike (prefix_of i.name)) ys k) ∙ append-nil (of xs i)

        right : (j : Item) → Each (λ (i : Item). alike (prefix_of i.name) j ≡ false) xs → Same ys j
        right j k =
            filter_append (alike (prefix_of j.name)) xs ys
            ∙ ap (λ (l : List Item). l ++ of ys j)
            (filter_none (alike (prefix_of j.name)) xs
            (each_map (λ (i : Item). alike (prefix_of i.name) j ≡ false) (λ (i : Item). alike (prefix_of j.name) i ≡ false) xs
            (λ i e. equivalent_comm (prefix_of i.name) (prefix_of j.name) ∙ e) k))

    pub parts_append : parts (xs ++ ys) ≡ parts xs ++ parts ys
    unfolding parts
    parts_append = ap (filter is_part) groups_append ∙ filter_append is_part (groups xs) (groups ys)

-- a list of one group
pub one_part : (p : Bytes) (g : List Item) → 0 < length g → Each (λ (i : Item). alike p i ≡ true) g → is_part g ≡ true → parts g ≡ g ∷ []
unfolding parts leaders group filter
one_part p [] n h e = absurd (omega arith)
one_part p (x ∷ g) n h e =
    ap (λ (l : List Item). filter is_part (map (λ (i : Item). group (prefix_of i.name) (x ∷ g)) (x ∷ l)))
    (filter_none (unlike (prefix_of x.name)) (leaders g)
    (each_leaders (λ (i : Item). unlike (prefix_of x.name) i ≡ false) g
    (each_map (λ (i : Item). alike (prefix_of x.name) i ≡ true) (λ (i : Item). unlike (prefix_of x.name) i ≡ false) g
    (λ i k. ap not k) own_group.1)))
    ∙ ap (λ (l : List Item). filter is_part (l ∷ [])) (filter_all (alike (prefix_of x.name)) (x ∷ g) own_group)
    ∙ rw e
  where
    own_group : Each (λ (i : Item). alike (prefix_of x.name) i ≡ true) (x ∷ g)
    own_group =
        each_map (λ (i : Item). alike p i ≡ true) (λ (i : Item). alike (prefix_of x.name) i ≡ true) (x ∷ g)
        (λ i k. alike_same (prefix_of x.name) p (equivalent_fold (prefix_of x.name) p h.0) i ∙ k) h

-- what holds of every item's prefix holds of every group's spelling (f bounds the length)
pub groups_each :
    (P : Bytes → Type 0) (f : ℕ) (xs : List Item) → length xs ≤ f → Sorted key_of_item xs → Each (λ (i : Item). P (prefix_of i.name)) xs →
    Each (λ (g : List Item). P (spelling g)) (groups xs)
unfolding leaders spelling
groups_each P zero [] l s h = tt
groups_each P (suc f) [] l s h = tt
groups_each P zero (x ∷ ys) l s h = absurd (omega arith)
groups_each P (suc f) (x ∷ ys) l s h =
    subst (Each (λ (g : List Item). P (spelling g))) (sym (groups_run x ys s)) (
      h.0,
      groups_each P f (behind x ys) (behind_shorter x ys f l) (behind_sorted x ys s)
          (each_drop (λ (i : Item). P (prefix_of i.name)) (rest_of x ys) ys h.1),
    )

abbrev pub InFoldedOrder : List Item → List Item → Type 0
InFoldedOrder g h = order (fold (spelling g)) (fold (spelling h)) ≡ Less

groups_folded : (f : ℕ) (xs : List Item) → length xs ≤ f → Sorted key_of_item xs → AllPairs InFoldedOrder (groups xs)
unfolding leaders spelling
groups_folded zero [] l s = tt
groups_folded (suc f) [] l s = tt
groups_folded zero (x ∷ ys) l s = absurd (omega arith)
groups_folded (suc f) (x ∷ ys) l s =
    subst (AllPairs InFoldedOrder) (sym (groups_run x ys s)) (
      groups_each (λ (q : Bytes). order (fold (prefix_of x.name)) (fold q) ≡ Less) f (behind x ys) (behind_shorter x ys f l)
          (behind_sorted x ys s)
          (each_both (λ (i : Item). alike (prefix_of x.name) i ≡ false) (λ (i : Item). before (key_of_item x) (key_of_item i) ≡ true)
          (λ (i : Item). order (fold (prefix_of x.name)) (fold (prefix_of i.name)) ≡ Less) (behind x ys) less
          (behind_apart x ys s) (each_drop (λ (i : Item). before (key_of_item x) (key_of_item i) ≡ true) (rest_of x ys) ys s.0)),
      groups_folded f (behind x ys) (behind_shorter x ys f l) (behind_sorted x ys s),
    )
  where
    less : (i : Item) → alike (prefix_of x.name) i ≡ false → before (key_of_item x) (key_of_item i) ≡ true →
        order (fold (prefix_of x.name)) (fold (prefix_of i.name)) ≡ Less
    less i h k = begins_less (key_of_item x) (key_of_item i) k
        (λ e. true≢false (sym (fold_equivalent (prefix_of i.name) (prefix_of x.name) (sym e)) ∙ h))

-- the parts stand "in folded order"
pub parts_folded : (xs : List Item) → Sorted key_of_item xs → AllPairs InFoldedOrder (parts xs)
unfolding parts
parts_folded xs s = pairs_filter InFoldedOrder InFoldedOrder is_part (groups xs) (λ g h a b l. l)
    (groups_folded (length xs) xs (omega arith) s)

-- every part's spelling is an unreserved part name
abbrev pub Unreserved : Bytes → Type 0
Unreserved s = (part_name s ≡ true) × (reserved s ≡ false)

pub parts_named : (S : State) → Good S → Each (λ (g : List Item). Unreserved (spelling g)) (parts S.items)
unfolding parts
parts_named S g =
    each_filter (λ (q : List Item). Unreserved (spelling q)) (λ (q : List Item). Unreserved (spelling q)) is_part (groups S.items)
    (λ q e h. h)
    (groups_each Unreserved (length S.items) S.items (omega arith) g.items.sorted
    (each_map (λ (i : Item). item_kind.fields i ≡ 0) (λ (i : Item). Unreserved (prefix_of i.name)) S.items
    (λ i h. accepted_prefix i.name h) g.items.fielded))

-- there are no more parts than items
leaders_few : (xs : List Item) → length (leaders xs) ≤ length xs
unfolding leaders
leaders_few [] = omega arith
leaders_few (x ∷ xs) = omega (arith, length_filter (unlike (prefix_of x.name)) (leaders xs), leaders_few xs)

pub parts_few : (xs : List Item) → length (parts xs) ≤ length xs
unfolding parts
parts_few xs = omega (
  arith,
  length_filter is_part (groups xs),
  length-map (leaders xs) (λ (i : Item). group (prefix_of i.name) xs),
  leaders_few xs,
)
