-- The rows of a group: where they begin and end, and whether they are a part.
-- Assumes nothing.
use Prim.Native.Nat.{ℕ, ◌+◌, ◌-◌, ◌*◌, ◌≤◌, ◌<◌}
use mathlib.Core.Path.{◌≡◌, refl, ap, sym, ◌∙◌}
use mathlib.Core.Bool.{Bool, true, false, not, ◌||◌}
use mathlib.Core.List.{List, [], ◌∷◌}
use native.Mathlib.Omega.{arith}
use lib.Dec.{eqb}
use lib.ListN.{length, get_or, drop, length-drop, length-map, drop_of_length-le}
use lib.Seq.{length-take-le, get_or-take, get_or-drop}
use borrow.Author.Tests.{not-true, not-false}
use Rattle.base.proofs.Bools.{not_passing}
use Rattle.chars.specs.Folding.{lower, fold, equivalent, order}
use Rattle.chars.specs.FoldedNames.{folded_size}
use Rattle.chars.proofs.Equivalence.{equivalent_fold, fold_equivalent}
use Rattle.model.specs.Sets.{Bytes, before, any, Each, AllPairs, Sorted}
use Rattle.model.specs.Places.{first_where, bound, lead}
use Rattle.names.specs.Names.{part_name}
use Rattle.names.proofs.Lengths.{name_few}
use Rattle.model.specs.Fields.{first, prefix_of}
use Rattle.model.specs.Package.{no_item, Item, State, rank, key_of_item, group, complete_from, is_part, disagrees}
use Rattle.model.specs.Good.{Beside}
use Rattle.model.proofs.Lists.{each_map, pairs_map, pairs_drop, pairs_take, pairs_both, pairs_each, filter_none}
use Rattle.model.proofs.ItemNames.{prefixes_named}
use Rattle.model.proofs.Walks.{first_le, walk_step, walk_stop, lead_take}
use Rattle.model.proofs.KeyOrders.{goes_on_less}
use Rattle.model.proofs.Keys.{number_less}
use Rattle.model.proofs.Groups.{group_run}
use Rattle.model.proofs.Numbers.{numbered, zero_numbered}
use Rattle.store.specs.Layout.{slot_count, count_of}
use Rattle.store.specs.Rows.{row_at, tag_at, field_of}
use Rattle.store.specs.Packages.{Shape, Sound}
use Rattle.contract.specs.Rows.{key_in}
use Rattle.contract.specs.Holds.{Holds}
use Rattle.contract.specs.Searches.{Bounded, Counted}
use Rattle.contract.proofs.ItemRows.{items_le, item_tag, item_prefix, item_bound}
use Rattle.parts.specs.Runs.{run, in_group, Ending, Ended, Judged, Grouped, PartOf, PartRefused}
use Rattle.parts.proofs.LastItems.{mark, tag_in, Ascending, Agreeing, part_told}

-- ITEMS OF ONE GROUP stand by number, and agree
module _ (p : Bytes) (g : List Item) (a : Each (λ (i : Item). in_group p i ≡ true) g) where
  same_prefix : (i j : Item) → (in_group p i ≡ true) × (in_group p j ≡ true) → fold (prefix_of i.name) ≡ fold (prefix_of j.name)
  same_prefix i j e = equivalent_fold (prefix_of i.name) p e.0 ∙ sym (equivalent_fold (prefix_of j.name) p e.1)

  run_ascending : Sorted key_of_item g → Ascending g
  unfolding order
  run_ascending s =
      pairs_map (λ (i j : Item). ((in_group p i ≡ true) × (in_group p j ≡ true)) × (before (key_of_item i) (key_of_item j) ≡ true)) (λ (i j : Item). rank (mark i) < rank (mark j)) g
      (λ i j e. number_less (rank (mark i)) (rank (mark j)) (goes_on_less (key_of_item i) (key_of_item j) e.1 (same_prefix i j e.0)))
      (pairs_both (λ (i j : Item). (in_group p i ≡ true) × (in_group p j ≡ true)) (λ (i j : Item). before (key_of_item i) (key_of_item j) ≡ true) g (pairs_each (λ (i : Item). in_group p i ≡ true) g a) s)

  run_agreeing : AllPairs Beside g → Agreeing g
  run_agreeing s =
      pairs_map (λ (i j : Item). ((in_group p i ≡ true) × (in_group p j ≡ true)) × Beside i j) (λ (i j : Item). disagrees (mark i) (mark j) ≡ false) g
      (λ i j e. e.1.agreeing (fold_equivalent (prefix_of i.name) (prefix_of j.name) (same_prefix i j e.0)))
      (pairs_both (λ (i j : Item). (in_group p i ≡ true) × (in_group p j ≡ true)) Beside g (pairs_each (λ (i : Item). in_group p i ≡ true) g a) s)

-- A WANTED NAME FITS the array that it is folded into; q is the test of a part name
pub name_fits : (p : Bytes) (q : Bool) → q ≡ part_name p → not q ≡ false → length p ≤ folded_size
name_fits p q e z = omega (arith, name_few p (sym e ∙ not-false q z))

-- WHERE A GROUP ENDS: a walk over its rows
module _ (b : List ℕ) (i n : ℕ) (p : Bytes) where
  pub ending_begin : Ending b i n p i
  ending_begin = record { low = omega arith; high = λ m l k. l; is = λ S h e. refl }

  pub ended_end : (e : ℕ) → Ending b i n p e → n ≤ e → Ended b i n p e
  unfolding first_where
  ended_end e w l = record {
    low = w.low;
    high = w.high;
    is = λ S h k. sym (w.is S h k ∙ rw (drop_of_length-le S.items {i = e} (omega arith)) (omega arith));
  }

  module _ (e : ℕ) (w : Ending b i n p e) (l : e < n) (f : Bytes) (ef : Sound b → e < count_of b → f ≡ field_of (row_at b e) 0) (z : Bool) (ez : z ≡ equivalent f p) where
    here : (S : State) (h : Holds b S) → n ≡ length S.items → in_group p (get_or S.items e no_item) ≡ z
    here S h k =
        let m : e < length S.items = omega arith in
        sym (ez ∙ ap (λ (s : Bytes). equivalent s p) (ef h.lies.sound (omega (arith, items_le b S h)) ∙ item_prefix b S h e m))

    pub ending_more : not z ≡ false → Ending b i n p (e + 1)
    ending_more t = record {
      low = omega (arith, w.low);
      high = λ m x y. omega arith;
      is = λ S h k. w.is S h k ∙ walk_step (λ (x : Item). not (in_group p x)) S.items e no_item (omega arith) (ap not (here S h k) ∙ t);
    }

    pub ended_stop : not z ≡ true → Ended b i n p e
    ended_stop t = record {
      low = w.low;
      high = w.high;
      is = λ S h k. sym (w.is S h k ∙ walk_stop (λ (x : Item). not (in_group p x)) S.items e no_item (omega arith) (ap not (here S h k) ∙ t));
    }

-- WHETHER ROWS OF A GROUP ARE A PART
module _ (b : List ℕ) (f t : ℕ) where
  pub judged_none : t ≤ f → Judged b f t false
  unfolding is_part complete_from any
  judged_none l = record { is = λ S h m p a. let z : t - f ≡ 0 = omega arith in rw z }

  pub judged_last : f < t → (u : ℕ) → (Shape b → t - 1 < count_of b → u ≡ tag_at b (t - 1)) → Judged b f t (eqb u 0 || eqb u (2 * (t - f) + 1))
  judged_last l u eu = record {
    is = λ S h m p a.
        let r = run f t S.items in
        let z : f + (t - f - 1) ≡ t - 1 = omega arith in
        let at : get_or r (t - f - 1) no_item ≡ get_or S.items (t - 1) no_item =
        get_or-take (t - f) (drop f S.items) (t - f - 1) no_item (omega arith) ∙ get_or-drop f S.items (t - f - 1) no_item ∙ ap (λ (k : ℕ). get_or S.items k no_item) z
        in
        part_told r (t - f) u (length-take-le (t - f) (drop f S.items) (rw length-drop (omega arith))) (omega arith)
        (run_ascending p r a (part_of_pairs (λ (i j : Item). before (key_of_item i) (key_of_item j) ≡ true) S.items h.good.items.sorted))
        (run_agreeing p r a (part_of_pairs Beside S.items h.good.beside))
        (eu h.lies.sound.shape (omega (arith, items_le b S h)) ∙ item_tag b S h (t - 1) (omega arith) ∙ ap (λ (i : Item). tag_in i) (sym at));
  }
    where
      part_of_pairs : (R : Item → Item → Type 0) (xs : List Item) → AllPairs R xs → AllPairs R (run f t xs)
      part_of_pairs R xs h = pairs_take R (t - f) (drop f xs) (pairs_drop R f xs h)

-- THE GROUP OF A PREFIX
module _ (b : List ℕ) (p : Bytes) where
  -- f is where its items begin, t where those that stand side by side from there on end
  module _ (id : Bytes) (f : ℕ) (e : Bounded b (key_in 0 p 0 id) f) (t : ℕ) (o : f ≤ t) (few : t ≤ slot_count)
      (x : (S : State) → Holds b S → t ≡ f + lead (in_group p) (drop f S.items)) where
    from_is : (S : State) → Holds b S → f ≡ bound key_of_item (fold p, 0 ∷ []) S.items
    from_is S h = item_bound b S h p 0 id f e

    long : (S : State) (h : Holds b S) → t - f ≡ lead (in_group p) (drop f S.items)
    long S h = omega (arith, x S h)

    pub grouped_between : Grouped b p f t
    grouped_between = record {
      order = o;
      few = few;
      inside = λ S h.
          let a = first_le (λ (i : Item). not (in_group p i)) (drop f S.items) in
          let d = length-drop f S.items in
          let q = first_le (λ (i : Item). not (before (key_of_item i) (fold p, 0 ∷ []))) S.items in
          omega (arith, x S h, from_is S h);
      is = λ S h. group_run p S.items h.good.items.sorted ∙ rw (← from_is S h, long S h);
      alike = λ S h. rw (long S h) (lead_take (in_group p) (drop f S.items));
    }

  pub grouped : Shape b → (n : ℕ) → Counted b n → (id : Bytes) (f : ℕ) → Bounded b (key_in 0 p 0 id) f → (t : ℕ) → Ended b f n p t →
      Grouped b p f t
  grouped s n c id f e t x =
      grouped_between id f e t x.low (x.high slot_count (omega (arith, e.within, s.few)) (omega (arith, c.low, s.few)))
      (λ S h. x.is S h (c.is S h))

  pub part_of : (f t : ℕ) → Grouped b p f t → (z : Bool) → Judged b f t z → PartOf b p z
  part_of f t g z j = record { is = λ S h. j.is S h (g.inside S h) p (g.alike S h) ∙ ap is_part (sym (g.is S h)) }

  -- no item has so long a prefix
  pub part_of_long : 255 < length p → PartOf b p false
  unfolding group is_part complete_from any
  part_of_long l = record { is = λ S h. sym (ap is_part (filter_none (in_group p) S.items (others S h))) }
    where
      others : (S : State) → Holds b S → Each (λ (i : Item). in_group p i ≡ false) S.items
      others S h =
          each_map (λ (i : Item). part_name (prefix_of i.name) ≡ true) (λ (i : Item). in_group p i ≡ false) S.items
          (λ i n. not_passing (in_group p i) (λ e.
          let z : length (fold (prefix_of i.name)) ≡ length (fold p) = ap length (equivalent_fold (prefix_of i.name) p e) in
          omega (arith, length-map (prefix_of i.name) lower, length-map p lower, name_few (prefix_of i.name) n)))
          (prefixes_named S h.good)

  -- THE REFUSAL of a part that is asked for; q is the test of its name, y whether the group is a part
  module _ (q : Bool) (eq : q ≡ part_name p) where
    pub refused_name : not q ≡ true → PartRefused b p 4
    unfolding first
    refused_name hq = record { numbered = numbered 4 (omega arith) (omega arith); is = λ S h. rw (← eq, not-true q hq) }

    module _ (hq : not q ≡ false) (y : Bool) (ey : PartOf b p y) where
      pub refused_none : y ≡ true → PartRefused b p 0
      unfolding first
      refused_none hy = record { numbered = zero_numbered; is = λ S h. rw (← eq, not-false q hq, ← ey.is S h, hy) }

      pub refused_part : y ≡ false → PartRefused b p 13
      unfolding first
      refused_part hy = record { numbered = numbered 13 (omega arith) (omega arith); is = λ S h. rw (← eq, not-false q hq, ← ey.is S h, hy) }
