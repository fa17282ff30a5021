-- Where a group ends: by halving, at the bound of its prefix with a number that no item has; right behind a whole item.
-- Assumes nothing.
use Prim.Native.Nat.{ℕ, suc, ◌+◌, ◌-◌, ◌/◌, ◌≤◌, ◌<◌}
use mathlib.Core.Path.{◌≡◌, refl, ap, sym, ◌∙◌}
use mathlib.Core.Bool.{Bool, true, false, not, ◌||◌, cond, true≢false}
use mathlib.Core.List.{List, [], ◌∷◌}
use native.Mathlib.Omega.{arith}
use lib.Dec.{ltb, eqb}
use lib.ListN.{length, get_or, drop, length-drop}
use lib.Seq.{get_or-drop}
use borrow.Author.Tests.{lt-ltb, le-ltb, ltb-true, ltb-false, not-true, not-false}
use Rattle.chars.specs.Folding.{fold, equivalent, order}
use Rattle.std.specs.declared.cmp.Ordering.{Ordering}
use Rattle.std.specs.declared.cmp.Ordering.TheVariants.{Less, Greater}
use Rattle.chars.proofs.Orders.{order_refl, order_less}
use Rattle.chars.proofs.Equivalence.{equivalent_fold, fold_equivalent, equivalent_sym}
use Rattle.names.specs.declared.items.Suffix.{Suffix}
use Rattle.names.specs.declared.items.Suffix.TheVariants.{Whole, Piece}
use Rattle.model.specs.Sets.{Bytes, Key, then_by, key_order, is_less, before, Sorted}
use Rattle.model.specs.Places.{bound, lead}
use Rattle.model.specs.Fields.{prefix_of, suffix_of, whole}
use Rattle.model.specs.Package.{no_item, Item, State, rank, key_of_item}
use Rattle.model.specs.Good.{Beside}
use Rattle.base.proofs.Bools.{not_passing}
use Rattle.model.proofs.Lists.{pairs_at}
use Rattle.model.proofs.Walks.{first_le, first_passes, before_first, first_at, walk_step, walk_stop, walk_end}
use Rattle.model.proofs.KeyOrders.{begins_less, is_equal_lem, key_equal}
use Rattle.model.proofs.Groups.{alike_same}
use Rattle.model.proofs.Places.{not_before_monotone}
use Rattle.model.proofs.FieldSizes.{prefix_few}
use Rattle.store.specs.Layout.{count_of}
use Rattle.store.specs.Rows.{row_at, tag_at, field_of}
use Rattle.store.specs.Packages.{Shape, Sound}
use Rattle.contract.specs.Rows.{tag_of, default_tag, override_tag, set_of, second, key_in, row_key}
use Rattle.contract.specs.Holds.{Holds}
use Rattle.contract.specs.Searches.{Bounded, Placed}
use Rattle.contract.proofs.ItemRows.{items_le, item_row_lem, item_tag, item_prefix, item_bound, other_tag}
use Rattle.contract.proofs.RowOrders.{holds_ordered}
use Rattle.contract.proofs.RowKeys.{tag_small, tag_half, item_row_key}
use Rattle.parts.specs.Runs.{in_group, Ending, Ended, EndedBehind, Grouped}
use Rattle.parts.proofs.GroupRuns.{ending_more, grouped_between}

-- the key of p with a number above all
abbrev above : Bytes → Key
above p = (fold p, 65534 / 2 ∷ [])

rank_small : (i : Item) → rank (suffix_of i.name) < 32767
rank_small i = omega (arith, tag_half (suffix_of i.name), tag_small i.name)

module _ (p : Bytes) where
  group_below : (i : Item) → in_group p i ≡ true → before (key_of_item i) (above p) ≡ true
  unfolding key_order then_by order
  group_below i g = rw (equivalent_fold (prefix_of i.name) p g, order_refl (fold p), lt-ltb (rank (suffix_of i.name)) 32767 (rank_small i))

  -- j stands behind i, which is of the group
  other_above : (i j : Item) → in_group p i ≡ true → before (key_of_item i) (key_of_item j) ≡ true → in_group p j ≡ false → before (key_of_item j) (above p) ≡ false
  unfolding key_order then_by
  other_above i j g l n =
      let e : fold (prefix_of i.name) ≡ fold p = equivalent_fold (prefix_of i.name) p g in
      let u : order (fold (prefix_of i.name)) (fold (prefix_of j.name)) ≡ Less =
      begins_less (key_of_item i) (key_of_item j) l (λ f. true≢false (sym (fold_equivalent (prefix_of j.name) p (sym f ∙ e)) ∙ n)) in
      let v : order (fold (prefix_of j.name)) (fold p) ≡ Greater =
      ap (λ (s : Bytes). order (fold (prefix_of j.name)) s) (sym e) ∙ order_less (fold (prefix_of i.name)) (fold (prefix_of j.name)) u in
      ap (λ (o : Ordering). is_less (then_by o (order (key_of_item j).1 (65534 / 2 ∷ [])))) v

  -- item e is of the group
  module _ (xs : List Item) (s : Sorted key_of_item xs) (e : ℕ) (l : e < length xs) (g : in_group p (get_or xs e no_item) ≡ true) where
    more : ℕ
    more = lead (in_group p) (drop (e + 1) xs)

    more_le : more ≤ length xs - (e + 1)
    unfolding more
    more_le = rw (← length-drop (e + 1) xs) (first_le (λ (i : Item). not (in_group p i)) (drop (e + 1) xs))

    in_run : (j : ℕ) → e ≤ j → j < e + 1 + more → in_group p (get_or xs j no_item) ≡ true
    unfolding more
    in_run j a b = go (ltb e j) refl
      where
        go : (t : Bool) → ltb e j ≡ t → in_group p (get_or xs j no_item) ≡ true
        go false f = let z : j ≡ e = omega (arith, ltb-false e j f) in ap (λ (k : ℕ). in_group p (get_or xs k no_item)) z ∙ g
        go true f =
            let m = ltb-true e j f in
            let z : e + 1 + (j - (e + 1)) ≡ j = omega arith in
            let k : not (in_group p (get_or (drop (e + 1) xs) (j - (e + 1)) no_item)) ≡ false = before_first (λ (i : Item). not (in_group p i)) (drop (e + 1) xs) (j - (e + 1)) no_item (omega arith) in
            ap (λ (i : ℕ). in_group p (get_or xs i no_item)) (sym z) ∙ ap (in_group p) (sym (get_or-drop (e + 1) xs (j - (e + 1)) no_item)) ∙ not-false (in_group p (get_or (drop (e + 1) xs) (j - (e + 1)) no_item)) k

    pub end_bound : bound key_of_item (above p) xs ≡ e + 1 + lead (in_group p) (drop (e + 1) xs)
    unfolding more
    end_bound = first_at (λ (i : Item). not (before (key_of_item i) (above p))) xs (e + 1 + more) no_item (not_before_monotone key_of_item (above p) xs s) (omega (arith, more_le)) below over
      where
        below : (j : ℕ) → e + 1 + more ≡ suc j → not (before (key_of_item (get_or xs j no_item)) (above p)) ≡ false
        below j z = ap not (group_below (get_or xs j no_item) (in_run j (omega arith) (omega arith)))

        over : e + 1 + more < length xs → not (before (key_of_item (get_or xs (e + 1 + more) no_item)) (above p)) ≡ true
        over k =
            let d : length (drop (e + 1) xs) ≡ length xs - (e + 1) = length-drop (e + 1) xs in
            let f : not (in_group p (get_or (drop (e + 1) xs) more no_item)) ≡ true = first_passes (λ (i : Item). not (in_group p i)) (drop (e + 1) xs) no_item (omega arith) in
            ap not
            (other_above (get_or xs e no_item) (get_or xs (e + 1 + more) no_item) g (pairs_at (λ (i j : Item). before (key_of_item i) (key_of_item j) ≡ true) xs e (e + 1 + more) no_item (omega arith) k s)
            (ap (in_group p) (sym (get_or-drop (e + 1) xs more no_item)) ∙ not-true (in_group p (get_or (drop (e + 1) xs) more no_item)) f))

-- ROWS
module _ (b : List ℕ) (e n : ℕ) (p : Bytes) (l : e ≤ n) (id : Bytes) (r : ℕ) (er : Bounded b (key_in 0 p 65534 id) r) where
  end_is : (S : State) → Holds b S → n ≡ length S.items → 0 < e → equivalent (field_of (row_at b (e - 1)) 0) p ≡ true → r ≡ e + lead (in_group p) (drop e S.items)
  end_is S h k z g =
      let m : e - 1 < length S.items = omega arith in
      let q : e - 1 + 1 ≡ e = omega arith in
      item_bound b S h p 65534 id r er
      ∙ end_bound p S.items h.good.items.sorted (e - 1) m (ap (λ (s : Bytes). equivalent s p) (sym (item_prefix b S h (e - 1) m)) ∙ g)
      ∙ ap (λ (i : ℕ). i + lead (in_group p) (drop i S.items)) q

  pub behind_low : r ≤ e → EndedBehind b e n p e
  behind_low q = record { low = omega arith; high = l; is = λ S h k z g. omega (arith, end_is S h k z g) }

  pub behind_high : n ≤ r → EndedBehind b e n p n
  behind_high q = record {
    low = l;
    high = omega arith;
    is = λ S h k z g.
        let a : lead (in_group p) (drop e S.items) ≤ length S.items - e = rw (← length-drop e S.items) (first_le (λ (i : Item). not (in_group p i)) (drop e S.items)) in
        omega (arith, end_is S h k z g);
  }

  pub behind_between : e < r → r < n → EndedBehind b e n p r
  behind_between q u = record { low = omega arith; high = omega arith; is = end_is }

-- a whole item is alone in its group
tag_whole : (x : Suffix) → tag_of x ≡ 0 → whole x ≡ true
tag_whole Whole e = refl
tag_whole (Piece k l) e = absurd (omega arith)

-- u is the tag of row i
module _ (b : List ℕ) (i u : ℕ) (eu : Shape b → i < count_of b → u ≡ tag_at b i) (z : u ≡ 0) (S : State) (h : Holds b S) where
  alone : i + 1 < length S.items → in_group (field_of (row_at b i) 0) (get_or S.items (i + 1) no_item) ≡ false
  alone k =
      let m : i < length S.items = omega arith in
      let x = get_or S.items i no_item in
      let y = get_or S.items (i + 1) no_item in
      let w : whole (suffix_of x.name) ≡ true = tag_whole (suffix_of x.name) (sym (item_tag b S h i m) ∙ sym (eu h.lies.sound.shape (omega (arith, items_le b S h))) ∙ z) in
      let a : equivalent (prefix_of x.name) (prefix_of y.name) ≡ false =
      (pairs_at Beside S.items i (i + 1) no_item (omega arith) k h.good.beside).alone (ap (λ (t : Bool). t || whole (suffix_of y.name)) w) in
      ap (equivalent (prefix_of y.name)) (item_prefix b S h i m)
      ∙ not_passing (equivalent (prefix_of y.name) (prefix_of x.name)) (λ e. true≢false (sym (equivalent_sym (prefix_of y.name) (prefix_of x.name) e) ∙ a))

  -- p is its prefix, in any spelling
  alone_end : (p : Bytes) → fold p ≡ fold (field_of (row_at b i) 0) → i < length S.items → i + 1 + lead (in_group p) (drop (i + 1) S.items) ≡ i + 1
  alone_end p e m = go (ltb (i + 1) (length S.items)) refl
    where
      go : (t : Bool) → ltb (i + 1) (length S.items) ≡ t → i + 1 + lead (in_group p) (drop (i + 1) S.items) ≡ i + 1
      go true k =
          let n = ltb-true (i + 1) (length S.items) k in
          walk_stop (λ (x : Item). not (in_group p x)) S.items (i + 1) no_item n
          (ap not (alike_same p (field_of (row_at b i) 0) e (get_or S.items (i + 1) no_item) ∙ alone n))
      go false k = walk_end (λ (x : Item). not (in_group p x)) S.items (i + 1) (omega (arith, ltb-false (i + 1) (length S.items) k))

module _ (b : List ℕ) (i n : ℕ) (l : i < n) where
  pub ended_alone : (u : ℕ) → (Shape b → i < count_of b → u ≡ tag_at b i) → u ≡ 0 → Ended b (i + 1) n (field_of (row_at b i) 0) (i + 1)
  ended_alone u eu z = record {
    low = omega arith;
    high = λ m y w. y;
    is = λ S h k. sym (alone_end b i u eu z S h (field_of (row_at b i) 0) refl (omega arith));
  }

  -- f is the prefix in row i
  pub ended_own : (f : Bytes) → (Sound b → i < count_of b → f ≡ field_of (row_at b i) 0) → (r : ℕ) → Ended b (i + 1) n f r → Ended b (i + 1) n (field_of (row_at b i) 0) r
  ended_own f ef r x = record {
    low = x.low;
    high = x.high;
    is = λ S h k. x.is S h k ∙ ap (λ (p : Bytes). i + 1 + lead (in_group p) (drop (i + 1) S.items)) (ef h.lies.sound (omega (arith, items_le b S h)));
  }

  -- it is longer than any item's
  pub ended_long : (f : Bytes) → (Sound b → i < count_of b → f ≡ field_of (row_at b i) 0) → 255 < length f → Ended b (i + 1) n (field_of (row_at b i) 0) (i + 1)
  ended_long f ef g = record {
    low = omega arith;
    high = λ m y w. y;
    is = λ S h k.
        let e : length f ≡ length (prefix_of (get_or S.items i no_item).name) = ap length (ef h.lies.sound (omega (arith, items_le b S h)) ∙ item_prefix b S h i (omega arith)) in
        absurd (omega (arith, prefix_few S h.good i no_item (omega arith)));
  }

-- a walk that has come to row e, which is of the group, and the end behind it
pub ended_behind :
    (b : List ℕ) (i n : ℕ) (p : Bytes) (e : ℕ) (w : Ending b i n p e) (l : e < n) (f : Bytes) (ef : Sound b → e < count_of b → f ≡ field_of (row_at b e) 0) (z : Bool) (ez : z ≡ equivalent f p) →
    not z ≡ false → (r : ℕ) → EndedBehind b (e + 1) n p r → Ended b i n p r
ended_behind b i n p e w l f ef z ez t r x = record {
  low = omega (arith, w.low, x.low);
  high = λ m y u. omega (arith, x.high);
  is = λ S h k.
      let q : e + 1 - 1 ≡ e = omega arith in
      let g : equivalent (field_of (row_at b e) 0) p ≡ true = ap (λ (s : Bytes). equivalent s p) (sym (ef h.lies.sound (omega (arith, items_le b S h)))) ∙ sym ez ∙ not-false z t in
      x.is S h k (omega arith) (ap (λ (j : ℕ). equivalent (field_of (row_at b j) 0) p) q ∙ g) ∙ sym ((ending_more b i n p e w l f ef z ez t).is S h k);
}

-- A WHOLE ITEM IS MET: row f has the key of p with the number 0
rank_whole : (x : Suffix) → rank x ≡ 0 → tag_of x ≡ 0
rank_whole Whole e = refl
rank_whole (Piece k l) e = absurd (omega arith)

other_set : (t : ℕ) → default_tag ≤ t → set_of t ≡ 0 → ⊥
unfolding set_of
other_set t l e = go (eqb t default_tag) (eqb t override_tag) (rw (le-ltb t default_tag l) at e)
  where
    go : (x y : Bool) → ◌≡◌ {A = ℕ} (cond x 1 (cond y 2 3)) 0 → ⊥
    go true y f = omega arith
    go false true f = omega arith
    go false false f = omega arith

module _ (b p id : Bytes) (f : ℕ) (z : Bool) (x : Placed b (key_in 0 p 0 id) f z) (t : z ≡ true) where
  module _ (S : State) (h : Holds b S) where
    met : ((row_key (row_at b f)).0 ≡ 0 ∷ fold p) × ((row_key (row_at b f)).1 ≡ 0 ∷ [])
    unfolding second
    met = key_equal (row_key (row_at b f)) (key_in 0 p 0 id) (is_equal_lem _ (sym (x.has (holds_ordered b S h) (x.inside t)) ∙ t))

    -- it is an item's
    met_item : f < length S.items
    met_item = go (ltb f (length S.items)) refl
      where
        go : (q : Bool) → ltb f (length S.items) ≡ q → f < length S.items
        go true e = ltb-true f (length S.items) e
        go false e =
            let l = other_tag b S h f (ltb-false f (length S.items) e) (x.inside t) in
            absurd (other_set (tag_at b f) l (ap (λ (s : Bytes). get_or s 0 0) met.0))

    met_end : f + 1 ≡ f + lead (in_group p) (drop f S.items)
    unfolding field_of
    met_end =
        let y = get_or S.items f no_item in
        let k : row_key (row_at b f) ≡ (0 ∷ (key_of_item y).0, (key_of_item y).1) = ap row_key (item_row_lem b S h f met_item) ∙ item_row_key y in
        let g : fold (prefix_of y.name) ≡ fold p = ap (drop 1) (sym (ap (λ (q : Key). q.0) k) ∙ met.0) in
        let r : rank (suffix_of y.name) ≡ 0 = ap (λ (s : Bytes). get_or s 0 0) (sym (ap (λ (q : Key). q.1) k) ∙ met.1) in
        let u : tag_at b f ≡ 0 = item_tag b S h f met_item ∙ rank_whole (suffix_of y.name) r in
        sym (walk_step (λ (i : Item). not (in_group p i)) S.items f no_item met_item (ap not (fold_equivalent (prefix_of y.name) p g))
        ∙ alone_end b f (tag_at b f) (λ _ _. refl) u S h p (sym (ap (drop 1) met.0)) met_item)

  pub grouped_whole : Shape b → Grouped b p f (f + 1)
  grouped_whole s = grouped_between b p id f x.bounded (f + 1) (omega arith) (omega (arith, x.inside t, s.few)) met_end
