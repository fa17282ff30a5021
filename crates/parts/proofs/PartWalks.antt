-- A walk over the groups of the items passes the parts one after the other.
-- Assumes nothing.
use Prim.Native.Nat.{ℕ, zero, suc, ◌+◌, ◌-◌, ◌≤◌, ◌<◌}
use mathlib.Core.Path.{◌≡◌, refl, ap, sym, ◌∙◌, subst}
use mathlib.Core.Bool.{Bool, true, false, ◌&&◌, cond}
use mathlib.Core.List.{List, [], ◌∷◌}
use native.Mathlib.Omega.{arith}
use native.Mathlib.Numerals.{add-one}
use lib.Dec.{eqb}
use lib.ListN.{length, get_or, take, drop, drop_of_length-le, length-drop}
use lib.Seq.{drop-cons, drop-drop}
use borrow.Author.Tests.{eqb-true, eqb-false}
use Rattle.base.proofs.Bools.{and_left, and_right}
use Rattle.model.specs.Sets.{Bytes, before, Each, Sorted, filter}
use Rattle.model.specs.Fields.{prefix_of}
use Rattle.model.specs.Package.{no_item, Item, State, key_of_item, is_part, leaders, parts, spelling}
use Rattle.model.proofs.Lists.{pairs_drop}
use Rattle.model.proofs.Walks.{lead_take}
use Rattle.model.proofs.Groups.{own}
use Rattle.model.proofs.Parts.{rest_of, behind, parts_run}
use Rattle.store.specs.Layout.{count_of}
use Rattle.store.specs.Rows.{row_at, field_of}
use Rattle.store.specs.Packages.{Sound}
use Rattle.contract.specs.Holds.{Holds}
use Rattle.contract.proofs.ItemRows.{items_le, item_prefix}
use Rattle.parts.specs.Runs.{run, in_group, Ended, Judged}
use Rattle.parts.specs.Walks.{Walking, Walked}

-- A LIST of which some have been passed
module _ {E : Type 0} where
  pub drop_next : (l : List E) (m : ℕ) (x d : E) (r : List E) → drop m l ≡ x ∷ r → (drop (suc m) l ≡ r) × (m < length l) × (get_or l m d ≡ x)
  drop_next [] zero x d r e = let z : ◌≡◌ {A = ℕ} 0 1 = cc in absurd (omega arith)
  drop_next [] (suc m) x d r e = let z : ◌≡◌ {A = ℕ} 0 1 = cc in absurd (omega arith)
  drop_next (y ∷ l) zero x d r e = (cc, omega arith, cc)
  drop_next (y ∷ l) (suc m) x d r e = let h = drop_next l m x d r e in (h.0, omega (arith, h.1), h.2)

  drop_none : (l : List E) (m : ℕ) → m ≤ length l → drop m l ≡ [] → m ≡ length l
  drop_none l m h e = omega (arith, length-drop m l, ap length e)

pub parts_none : parts [] ≡ []
unfolding parts leaders filter
parts_none = refl

-- ONE GROUP MORE. q is the prefix in row i, e the end of its group, z whether that is a part
module _ (b : List ℕ) (n i : ℕ) (l : i < n) (q : Bytes) (eq : Sound b → i < count_of b → q ≡ field_of (row_at b i) 0) (e : ℕ) (x : Ended b (i + 1) n q e) (z : Bool) (j : Judged b i e z) where
  module _ (S : State) (h : Holds b S) (en : n ≡ length S.items) where
    here : i < length S.items
    here = omega arith

    abbrev item : Item
    item = get_or S.items i no_item

    abbrev rest : ℕ
    rest = rest_of item (drop (suc i) S.items)

    prefix : q ≡ prefix_of item.name
    prefix = eq h.lies.sound (omega (arith, items_le b S h)) ∙ item_prefix b S h i here

    end_is : e ≡ suc i + rest
    end_is = x.is S h en ∙ rw (prefix, add-one i)

    run_is : run i e S.items ≡ item ∷ take rest (drop (suc i) S.items)
    run_is =
        let k : e - i ≡ suc rest = omega (arith, end_is) in
        rw (k, drop-cons S.items i no_item here)

    alike : Each (λ (y : Item). in_group (prefix_of item.name) y ≡ true) (run i e S.items)
    alike = rw run_is (own item, lead_take (in_group (prefix_of item.name)) (drop (suc i) S.items))

    end_in : e ≤ length S.items
    end_in = omega (arith, x.high n (omega arith) (omega arith))

    pub next_parts : parts (drop i S.items) ≡ cond z (run i e S.items ∷ parts (drop e S.items)) (parts (drop e S.items))
    next_parts =
        let s : Sorted key_of_item (item ∷ drop (suc i) S.items) =
        subst (Sorted key_of_item) (drop-cons S.items i no_item here) (pairs_drop (λ (y w : Item). before (key_of_item y) (key_of_item w) ≡ true) i S.items h.good.items.sorted)
        in
        let d : behind item (drop (suc i) S.items) ≡ drop e S.items = drop-drop rest (suc i) S.items ∙ ap (λ (k : ℕ). drop k S.items) (sym end_is) in
        let t : z ≡ is_part (run i e S.items) = j.is S h end_in (prefix_of item.name) alike in
        ap parts (drop-cons S.items i no_item here) ∙ parts_run item (drop (suc i) S.items) s ∙ rw (← run_is, d, ← t)

    pub run_spelling : spelling (run i e S.items) ≡ field_of (row_at b i) 0
    unfolding spelling
    run_spelling = rw run_is (sym (item_prefix b S h i here))

-- THE WALK
module _ (b : List ℕ) (n k : ℕ) where
  pub walking_begin : Walking b n k 0 0
  walking_begin = record { within = omega arith; few = omega arith; short = omega arith; passed = λ S h en. omega arith; is = λ S h en. refl }

  pub walked_end : (i m : ℕ) → Walking b n k i m → n ≤ i → Walked b n k i m
  walked_end i m w l = record {
    ended = λ S h en l'. (drop_none (parts S.items) m (w.passed S h en) (w.is S h en ∙ ap parts (drop_of_length-le S.items {i = i} (omega arith)) ∙ parts_none), w.short);
    stopped = λ S h en l'. absurd (omega arith);
  }

  module _ (i m : ℕ) (w : Walking b n k i m) (l : i < n) (q : Bytes) (eq : Sound b → i < count_of b → q ≡ field_of (row_at b i) 0) (e : ℕ) (x : Ended b (i + 1) n q e) (z : Bool) (j : Judged b i e z) where
    pub walked_stop : (z && eqb m k) ≡ true → Walked b n k i m
    walked_stop t = record {
      ended = λ S h en l'. absurd (omega arith);
      stopped = λ S h en l'.
          let f = drop_next (parts S.items) m (run i e S.items) [] (parts (drop e S.items)) (w.is S h en ∙ next_parts b n i l q eq e x z j S h en ∙ rw (and_left z (eqb m k) t)) in
          let r : m ≡ k = eqb-true m k (and_right z (eqb m k) t) in
          (omega (arith, f.1), rw (← r, f.2) (run_spelling b n i l q eq e x z j S h en));
    }

    pub walking_more : (z && eqb m k) ≡ false → (a : ℕ) → a ≡ cond z 1 0 → Walking b n k e (m + a)
    walking_more t a ea = go z refl t a ea
      where
        go : (y : Bool) → z ≡ y → (y && eqb m k) ≡ false → (a : ℕ) → a ≡ cond y 1 0 → Walking b n k e (m + a)
        go true ez t a ea =
            let u : m + a ≡ suc m = omega arith in
            let ne : m ≡ k → ⊥ = eqb-false m k t in
            rw u record {
              within = x.high n (omega arith) (omega arith);
              few = omega (arith, x.low, w.few);
              short = omega (arith, w.short);
              passed = λ S h en. omega (arith, (split S h en).1);
              is = λ S h en. (split S h en).0;
            }
          where
            split : (S : State) (h : Holds b S) (en : n ≡ length S.items) → (drop (suc m) (parts S.items) ≡ parts (drop e S.items)) × (m < length (parts S.items)) × (get_or (parts S.items) m [] ≡ run i e S.items)
            split S h en = drop_next (parts S.items) m (run i e S.items) [] (parts (drop e S.items)) (w.is S h en ∙ next_parts b n i l q eq e x z j S h en ∙ rw ez)
        go false ez t a ea =
            let u : m + a ≡ m = omega arith in
            rw u record {
              within = x.high n (omega arith) (omega arith);
              few = omega (arith, x.low, w.few);
              short = w.short;
              passed = w.passed;
              is = λ S h en. w.is S h en ∙ next_parts b n i l q eq e x z j S h en ∙ rw ez;
            }
