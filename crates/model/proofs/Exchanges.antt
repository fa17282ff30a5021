-- A group in its place, and other items put there instead of its own.
-- Assumes nothing.
use Prim.Native.Nat.{ℕ, ◌+◌, ◌-◌, ◌≤◌, ◌<◌}
use mathlib.Core.Path.{◌≡◌, refl, ap, ap₂, sym, ◌∙◌, subst}
use mathlib.Core.Bool.{Bool, true, false, not, true≢false}
use mathlib.Core.List.{List, [], ◌∷◌, ◌++◌, append-nil}
use native.Mathlib.Omega.{arith}
use lib.ListN.{length, take, drop, length-append}
use Rattle.chars.specs.Folding.{fold, order}
use Rattle.std.specs.declared.cmp.Ordering.TheVariants.{Less}
use Rattle.chars.proofs.Orders.{less_equal, order_refl}
use Rattle.chars.proofs.Equivalence.{equivalent_fold, fold_equivalent}
use Rattle.model.specs.Sets.{Bytes, then_by, key_order, before, filter, sum_of, insert, Each, AllPairs, Sorted}
use Rattle.model.specs.Places.{bound, lead}
use Rattle.model.specs.Fields.{prefix_of}
use Rattle.model.specs.Package.{Item, State, charge, key_of_item, item_charge, group}
use Rattle.model.specs.Cutting.{with_all, regrouped}
use Rattle.base.proofs.Bools.{not_passing}
use Rattle.model.proofs.Lists.{each_map, each_both, each_append, each_left, each_right, filter_append, filter_all, filter_none}
use Rattle.model.proofs.Appends.{pairs_append, pairs_left, pairs_right, pairs_across, run_split, filter_passes, filter_nothing, length_parted, sum_parted}
use Rattle.model.proofs.KeyOrders.{before_asym, begins_less}
use Rattle.model.proofs.Sets.{insert_front, insert_past, length_insert, sum_insert}
use Rattle.model.proofs.KindLaws.{item_lawful}
use Rattle.model.proofs.Groups.{alike, unlike, group_run}

-- BY NUMBERS. Items put in add up
pub length_with_all : (new xs : List Item) → length (with_all new xs) ≡ length new + length xs
unfolding with_all
length_with_all [] xs = omega arith
length_with_all (x ∷ new) xs = omega (arith, length_insert key_of_item x (with_all new xs), length_with_all new xs)

pub sum_with_all : (f : Item → ℕ) (new xs : List Item) → sum_of f (with_all new xs) ≡ sum_of f new + sum_of f xs
unfolding with_all sum_of
sum_with_all f [] xs = omega arith
sum_with_all f (x ∷ new) xs = omega (arith, sum_insert key_of_item f x (with_all new xs), sum_with_all f new xs)

module _ (S : State) (name : Bytes) (new : List Item) where
  abbrev others : List Item
  others = filter (unlike name) S.items

  pub length_regrouped : length (regrouped S name new).items + length (group name S.items) ≡ length S.items + length new
  unfolding group
  length_regrouped = omega (arith, length_with_all new others, length_parted (alike name) S.items)

  pub charge_regrouped : charge (regrouped S name new) + sum_of item_charge (group name S.items) ≡ charge S + sum_of item_charge new
  unfolding group
  charge_regrouped = omega (
    arith,
    item_lawful.charged S (with_all new others),
    sum_with_all item_charge new others,
    sum_parted (alike name) item_charge S.items,
  )

-- ITS PLACE. Before the group p, and behind it, stand the items whose prefixes are less or greater, folded
abbrev pub Below : Bytes → Item → Type 0
Below p i = order (fold (prefix_of i.name)) (fold p) ≡ Less

abbrev pub Above : Bytes → Item → Type 0
Above p i = order (fold p) (fold (prefix_of i.name)) ≡ Less

module _ (p : Bytes) (i : Item) where
  unordered : (fold (prefix_of i.name) ≡ fold p → ⊥) → alike p i ≡ false
  unordered n = not_passing (alike p i) (λ e. n (equivalent_fold (prefix_of i.name) p e))

  pub below_unlike : Below p i → alike p i ≡ false
  below_unlike l = unordered (λ e. less_equal (sym l ∙ ap (λ (t : Bytes). order t (fold p)) e ∙ order_refl (fold p)))

  pub above_unlike : Above p i → alike p i ≡ false
  above_unlike l = unordered (λ e. less_equal (sym l ∙ ap (order (fold p)) e ∙ order_refl (fold p)))

  module _ (j : Item) (m : alike p j ≡ true) where
    pub below_before : Below p i → before (key_of_item i) (key_of_item j) ≡ true
    unfolding key_order then_by
    below_before l = rw (equivalent_fold (prefix_of j.name) p m, l)

    pub before_above : Above p i → before (key_of_item j) (key_of_item i) ≡ true
    unfolding key_order then_by
    before_above l = rw (equivalent_fold (prefix_of j.name) p m, l)

-- the items g of the group p between a and b
pub record Around (p : Bytes) (xs a g b : List Item) : Type 0 where
  pub is : xs ≡ a ++ (g ++ b)
  pub below : Each (Below p) a
  pub own : Each (λ (i : Item). alike p i ≡ true) g
  pub above : Each (Above p) b

-- in a sorted list a group that stands between a and b is of this form: an item apart from it is on its side of it
module _ (p : Bytes) (a b : List Item) where
  apart : (w : Item) (ws : List Item) → Sorted key_of_item (a ++ (w ∷ ws ++ b)) → alike p w ≡ true → Each (λ (i : Item). alike p i ≡ false) a →
      Each (λ (i : Item). alike p i ≡ false) b → Each (Below p) a × Each (Above p) b
  apart w ws s m l r = (
    each_both (λ (i : Item). alike p i ≡ false) (λ (i : Item). Each (Before i) (w ∷ ws ++ b)) (Below p) a
        (λ i u k. ap (order (fold (prefix_of i.name))) (sym of_w) ∙ begins_less (key_of_item i) (key_of_item w) k.0 (λ e. other i u (e ∙ of_w)))
        l (pairs_across Before a (w ∷ ws ++ b) s),
    each_both (λ (i : Item). alike p i ≡ false) (Before w) (Above p) b
        (λ i u k. ap (λ (t : Bytes). order t (fold (prefix_of i.name))) (sym of_w)
        ∙ begins_less (key_of_item w) (key_of_item i) k (λ e. other i u (sym e ∙ of_w)))
        r (each_right (Before w) ws b (pairs_right Before a (w ∷ ws ++ b) s).0),
  )
    where
      Before : Item → Item → Type 0
      Before i j = before (key_of_item i) (key_of_item j) ≡ true

      of_w : fold (prefix_of w.name) ≡ fold p
      of_w = equivalent_fold (prefix_of w.name) p m

      other : (i : Item) → alike p i ≡ false → fold (prefix_of i.name) ≡ fold p → ⊥
      other i u e = true≢false (sym (fold_equivalent (prefix_of i.name) p e) ∙ u)

  around : (xs g : List Item) → Sorted key_of_item xs → xs ≡ a ++ (g ++ b) → group p xs ≡ g → 0 < length g → Around p xs a g b
  unfolding group
  around xs g s e h n = record { is = e; below = sides.0; own = mine; above = sides.1 }
    where
      mine : Each (λ (i : Item). alike p i ≡ true) g
      mine = subst (Each (λ (i : Item). alike p i ≡ true)) h (filter_passes (alike p) xs)

      -- none of the group is left for a and b
      counted : length (filter (alike p) a) + (length g + length (filter (alike p) b)) ≡ length g
      counted =
          let f : filter (alike p) (a ++ (g ++ b)) ≡ filter (alike p) a ++ (g ++ filter (alike p) b) =
          filter_append (alike p) a (g ++ b)
          ∙ ap (λ (l : List Item). filter (alike p) a ++ l)
          (filter_append (alike p) g b ∙ ap (λ (l : List Item). l ++ filter (alike p) b) (filter_all (alike p) g mine)) in
          simp length-append at (ap length (sym f ∙ ap (filter (alike p)) (sym e) ∙ h))

      with_first : (k : List Item) → 0 < length k → Each (λ (i : Item). alike p i ≡ true) k → Sorted key_of_item (a ++ (k ++ b)) →
          Each (Below p) a × Each (Above p) b
      with_first [] z m k = absurd (omega arith)
      with_first (w ∷ ws) z m k =
          apart w ws k m.0 (filter_nothing (alike p) a (omega (arith, counted))) (filter_nothing (alike p) b (omega (arith, counted)))

      sides : Each (Below p) a × Each (Above p) b
      sides = with_first g n mine (subst (Sorted key_of_item) e s)

-- what stands before the group p of a sorted list, and behind it
abbrev group_start : Bytes → List Item → ℕ
group_start p xs = bound key_of_item (fold p, 0 ∷ []) xs

abbrev group_end : Bytes → List Item → ℕ
group_end p xs = group_start p xs + lead (alike p) (drop (group_start p xs) xs)

abbrev pub front : Bytes → List Item → List Item
front p xs = take (group_start p xs) xs

abbrev pub back : Bytes → List Item → List Item
back p xs = drop (group_end p xs) xs

module _ (p : Bytes) (xs : List Item) (s : Sorted key_of_item xs) (n : 0 < length (group p xs)) where
  -- a group found in the rows from f to t
  pub around_run : (f t : ℕ) → f ≤ t → group p xs ≡ take (t - f) (drop f xs) → Around p xs (take f xs) (group p xs) (drop t xs)
  around_run f t l h =
      around p (take f xs) (drop t xs) xs (group p xs) s
      (sym (run_split f t xs l) ∙ ap (λ (g : List Item). take f xs ++ (g ++ drop t xs)) (sym h)) refl n

  -- every group is found in some
  pub around_group : Around p xs (front p xs) (group p xs) (back p xs)
  around_group =
      let m = lead (alike p) (drop (group_start p xs) xs) in
      let e : group_end p xs - group_start p xs ≡ m = omega arith in
      around_run (group_start p xs) (group_end p xs) (omega arith) (group_run p xs s ∙ ap (λ (k : ℕ). take k (drop (group_start p xs) xs)) (sym e))

-- THE GROUP AND THE OTHERS
module _ {p : Bytes} {xs a g b : List Item} (r : Around p xs a g b) where
  left_unlike : Each (λ (i : Item). alike p i ≡ false) a
  left_unlike = each_map (Below p) (λ (i : Item). alike p i ≡ false) a (below_unlike p) r.below

  right_unlike : Each (λ (i : Item). alike p i ≡ false) b
  right_unlike = each_map (Above p) (λ (i : Item). alike p i ≡ false) b (above_unlike p) r.above

  -- those that pass a test, where the group's own don't
  pub filter_others : (q : Item → Bool) → Each (λ (i : Item). q i ≡ false) g → filter q xs ≡ filter q a ++ filter q b
  filter_others q h =
      ap (filter q) r.is ∙ filter_append q a (g ++ b)
      ∙ ap (λ (l : List Item). filter q a ++ l) (filter_append q g b ∙ ap (λ (l : List Item). l ++ filter q b) (filter_none q g h))

  pub around_own : group p xs ≡ g
  unfolding group
  around_own =
      ap (filter (alike p)) r.is ∙ filter_append (alike p) a (g ++ b)
      ∙ ap₂ ◌++◌ (filter_none (alike p) a left_unlike)
      (filter_append (alike p) g b ∙ ap₂ ◌++◌ (filter_all (alike p) g r.own) (filter_none (alike p) b right_unlike) ∙ append-nil g)

  pub around_others : filter (unlike p) xs ≡ a ++ b
  around_others =
      filter_others (unlike p) (each_map (λ (i : Item). alike p i ≡ true) (λ (i : Item). unlike p i ≡ false) g (λ i e. ap not e) r.own)
      ∙ ap₂ ◌++◌ (filter_all (unlike p) a (passing a left_unlike)) (filter_all (unlike p) b (passing b right_unlike))
    where
      passing : (l : List Item) → Each (λ (i : Item). alike p i ≡ false) l → Each (λ (i : Item). unlike p i ≡ true) l
      passing l h = each_map (λ (i : Item). alike p i ≡ false) (λ (i : Item). unlike p i ≡ true) l (λ i e. ap not e) h

  -- OTHER ITEMS of the group between a and b
  module _ (new : List Item) (m : Each (λ (i : Item). alike p i ≡ true) new) where
    pub around_new : Around p (a ++ (new ++ b)) a new b
    around_new = record { is = refl; below = r.below; own = m; above = r.above }

    -- what held of each and of every two holds still, if it does of the new ones and of these beside the others
    pub each_new : (P : Item → Type 0) → Each P xs → Each P new → Each P (a ++ (new ++ b))
    each_new P h k =
        let held = subst (Each P) r.is h in
        each_append P a (new ++ b) (each_left P a (g ++ b) held) (each_append P new b k (each_right P g b (each_right P a (g ++ b) held)))

    pub pairs_new : (R : Item → Item → Type 0) → AllPairs R xs → AllPairs R new → Each (λ (x : Item). Each (R x) new) a →
        Each (λ (x : Item). Each (R x) b) new → AllPairs R (a ++ (new ++ b))
    pairs_new R h k c d =
        let held = subst (AllPairs R) r.is h in
        pairs_append R a (new ++ b) (pairs_left R a (g ++ b) held)
        (pairs_append R new b k (pairs_right R g b (pairs_right R a (g ++ b) held)) d)
        (each_both (λ (x : Item). Each (R x) new) (λ (x : Item). Each (R x) (g ++ b)) (λ (x : Item). Each (R x) (new ++ b)) a
        (λ x u v. each_append (R x) new b u (each_right (R x) g b v)) c (pairs_across R a (g ++ b) held))

    pub sorted_new : Sorted key_of_item xs → Sorted key_of_item new → Sorted key_of_item (a ++ (new ++ b))
    sorted_new h k =
        pairs_new (λ (i j : Item). before (key_of_item i) (key_of_item j) ≡ true) h k
        (each_map (Below p) (λ (i : Item). Each (λ (j : Item). before (key_of_item i) (key_of_item j) ≡ true) new) a
        (λ i l. each_map (λ (j : Item). alike p j ≡ true) (λ (j : Item). before (key_of_item i) (key_of_item j) ≡ true) new
        (λ j e. below_before p i j e l) m) r.below)
        (each_map (λ (j : Item). alike p j ≡ true) (λ (j : Item). Each (λ (i : Item). before (key_of_item j) (key_of_item i) ≡ true) b) new
        (λ j e. each_map (Above p) (λ (i : Item). before (key_of_item j) (key_of_item i) ≡ true) b (λ i l. before_above p i j e l) r.above) m)

  -- that is where they come to stand when they are put in for its own
  put_all : (new : List Item) → Each (λ (i : Item). alike p i ≡ true) new → Sorted key_of_item new → with_all new (a ++ b) ≡ a ++ (new ++ b)
  unfolding with_all
  put_all [] m s = refl
  put_all (x ∷ new) m s =
      ap (insert key_of_item x) (put_all new m.1 s.1)
      ∙ insert_past key_of_item x a (new ++ b)
      (each_map (Below p) (λ (i : Item). before (key_of_item x) (key_of_item i) ≡ false) a
      (λ i l. before_asym (key_of_item i) (key_of_item x) (below_before p i x m.0 l)) r.below)
      ∙ ap (λ (l : List Item). a ++ l)
      (insert_front key_of_item x (new ++ b)
      (each_append (λ (i : Item). before (key_of_item x) (key_of_item i) ≡ true) new b s.0
      (each_map (Above p) (λ (i : Item). before (key_of_item x) (key_of_item i) ≡ true) b (λ i l. before_above p i x m.0 l) r.above)))

  pub exchanged : (new : List Item) → Each (λ (i : Item). alike p i ≡ true) new → Sorted key_of_item new →
      with_all new (filter (unlike p) xs) ≡ a ++ (new ++ b)
  exchanged new m s = ap (with_all new) around_others ∙ put_all new m s
