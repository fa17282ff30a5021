-- A new item, whose key is free, beside the held ones: 12, 11.
-- Assumes nothing.
use Prim.Native.Nat.{ℕ, ◌-◌, ◌≤◌, ◌<◌}
use mathlib.Core.Path.{◌≡◌, refl, ap, ap₂, sym, ◌∙◌, subst}
use mathlib.Core.Bool.{Bool, true, false, not, ◌&&◌, ◌||◌}
use mathlib.Core.List.{List, [], map}
use native.Mathlib.Omega.{arith}
use lib.Dec.{ltb, eqb}
use lib.ListN.{length, get_or, take, length-map}
use lib.Seq.{take_at}
use borrow.Author.Tests.{ltb-true, ltb-false, lt-ltb, le-ltb}
use Rattle.chars.specs.Bytes.{slash}
use Rattle.chars.specs.Folding.{fold, equivalent}
use Rattle.chars.specs.FoldedNames.{common}
use Rattle.base.proofs.Bools.{or_true, or_false_left, or_false_right}
use Rattle.model.specs.Sets.{Bytes, before, held, lookup, any}
use Rattle.model.specs.Places.{bound, place}
use Rattle.model.specs.Fields.{first, prefix_of, suffix_of}
use Rattle.model.specs.Package.{no_item, State, Item, item_key, key_of_item, group, disagrees, grows}
use Rattle.model.specs.Puts.{misfits}
use Rattle.model.proofs.Numbers.{numbered, zero_numbered}
use Rattle.model.proofs.Lists.{any_map, any_same}
use Rattle.model.proofs.Walks.{first_le}
use Rattle.model.proofs.Sets.{Absent, absent}
use Rattle.model.proofs.Places.{bound_place}
use Rattle.model.proofs.Neighbours.{clashing, disagrees_neighbours}
use Rattle.store.specs.Rows.{Row}
use Rattle.contract.specs.Rows.{tag_of, item_row, other_rows, rows_for, key_in}
use Rattle.contract.specs.Holds.{Holds}
use Rattle.contract.specs.Searches.{Bounded, Counted}
use Rattle.contract.proofs.ItemRows.{item_tag, item_prefix}
use Rattle.items.specs.Clashes.{tags_disagree, Grown, parted_at, Parted, extends, extended_at, Extended, opposed_at, Opposed, OpposedBefore, Misfitting}
use Rattle.items.proofs.Tags.{tags_disagree_is}
use Rattle.items.proofs.Naming.{prefix_take}
use Rattle.items.proofs.Locating.{bound_of}
use Rattle.items.proofs.Growth.{none_grown}

-- THE ORDER OF THE TWO
module _ (s : Bytes) (xs : List Item) where
  abbrev Taken : Bool
  Taken = held (lookup key_of_item (item_key s) xs)

  abbrev Disagreeing : Bool
  Disagreeing = any (λ (i : Item). disagrees (suffix_of s) (suffix_of i.name)) (group (prefix_of s) xs)

  abbrev Growing : Bool
  Growing = any (λ (i : Item). grows (prefix_of s) (prefix_of i.name)) xs

  first_12 : Disagreeing ≡ true → 12 ≡ first (misfits s xs)
  unfolding first
  first_12 d = rw d

  first_11 : Disagreeing ≡ false → Growing ≡ true → 11 ≡ first (misfits s xs)
  unfolding first
  first_11 d g = rw (d, g)

  first_0 : Disagreeing ≡ false → Growing ≡ false → 0 ≡ first (misfits s xs)
  unfolding first
  first_0 d g = rw (d, g)

module _
    (b s : Bytes) (n t : ℕ) (en : n ≡ length (prefix_of s)) (et : t ≡ tag_of (suffix_of s)) (r m : ℕ)
    (eb : Bounded b (key_in 0 (take n s) t []) r) (ec : Counted b m)
  where
    module _ (S : State) (h : Holds b S) where
      m_is : m ≡ length S.items
      m_is = ec.is S h

      r_is : r ≡ bound key_of_item (item_key s) S.items
      r_is = bound_of b s n t en et r eb S h

      -- 12
      opposed_is : (i : ℕ) → i < length S.items → opposed_at b i (take n s) t ≡ clashing s (get_or S.items i no_item)
      opposed_is i l =
          let y = get_or S.items i no_item in
          ap₂ ◌&&◌ (ap₂ equivalent (item_prefix b S h i l) (prefix_take s n en))
          (ap₂ tags_disagree et (item_tag b S h i l) ∙ tags_disagree_is (suffix_of s) (suffix_of y.name))

      free : Taken s S.items ≡ false → Absent key_of_item (item_key s) S.items
      free q = absent key_of_item (item_key s) S.items q

      place_is : Taken s S.items ≡ false → place key_of_item (item_key s) S.items ≡ r
      place_is q = sym (r_is ∙ bound_place key_of_item (item_key s) S.items (free q))

      r_le : r ≤ length S.items
      r_le = omega (arith, r_is, first_le (λ (x : Item). not (before (key_of_item x) (item_key s))) S.items)

      neighbours : Taken s S.items ≡ false → Disagreeing s S.items
          ≡ (ltb 0 r && (ltb (r - 1) m && opposed_at b (r - 1) (take n s) t) || ltb r m && opposed_at b r (take n s) t)
      neighbours q =
          subst (λ (i : ℕ). Disagreeing s S.items ≡ (ltb 0 i && clashing s (get_or S.items (i - 1) no_item) || ltb i (length S.items) && clashing s (get_or S.items i no_item))) (place_is q)
          (disagrees_neighbours s S.items h.good.items.sorted h.good.beside (free q) no_item)
          ∙ ap₂ ◌||◌ (lower (ltb 0 r) refl) (upper (ltb r m) refl)
        where
          lower : (a : Bool) → ltb 0 r ≡ a → (a && clashing s (get_or S.items (r - 1) no_item)) ≡ (a && (ltb (r - 1) m && opposed_at b (r - 1) (take n s) t))
          lower false e = refl
          lower true e =
              let l : r - 1 < length S.items = omega (arith, ltb-true 0 r e, r_le) in
              rw (lt-ltb (r - 1) m (omega (arith, m_is))) (sym (opposed_is (r - 1) l))

          upper : (a : Bool) → ltb r m ≡ a → (ltb r (length S.items) && clashing s (get_or S.items r no_item)) ≡ (a && opposed_at b r (take n s) t)
          upper false e = rw (le-ltb r (length S.items) (omega (arith, ltb-false r m e, m_is)))
          upper true e =
              let l : r < length S.items = omega (arith, ltb-true r m e, m_is) in
              rw (lt-ltb r (length S.items) l) (sym (opposed_is r l))

      -- 11
      growing : (w : Bool) → Grown b m (take n s) w → w ≡ Growing s S.items
      unfolding rows_for item_row
      growing w g =
          g.is h.lies.sound
          ∙ ap (any (λ (x : Row). grows (take n s) x.f0)) (ap (take m) h.lies.rows ∙ take_at (map item_row S.items) (other_rows S) m (length-map S.items item_row ∙ sym m_is))
          ∙ any_map item_row (λ (x : Row). grows (take n s) x.f0) S.items
          ∙ any_same (λ (i : Item). grows (take n s) (item_row i).f0) (λ (i : Item). grows (prefix_of s) (prefix_of i.name)) (λ i. ap (λ (p : Bytes). grows p (prefix_of i.name)) (prefix_take s n en)) S.items

    -- EACH WAY OUT
    module _ (x : Bool) (ex : Opposed b r m (take n s) t x) where
      x_is : (S : State) → Holds b S → (ltb r m && opposed_at b r (take n s) t) ≡ x
      x_is S h = sym (ex.is h.lies.sound ec.low)

      pub misfit_12 : x ≡ true → Misfitting b s 12
      misfit_12 e = record {
        is = λ S h q. first_12 s S.items (neighbours S h q ∙ rw (x_is S h, e, or_true));
        numbered = numbered 12 (omega arith) (omega arith);
      }

      module _ (y : Bool) (ey : OpposedBefore b r m (take n s) t y) where
        y_is : (S : State) → Holds b S → (ltb 0 r && (ltb (r - 1) m && opposed_at b (r - 1) (take n s) t)) ≡ y
        y_is S h = sym (ey.is h.lies.sound ec.low)

        pub misfit_12_before : y ≡ true → Misfitting b s 12
        misfit_12_before e = record {
          is = λ S h q. first_12 s S.items (neighbours S h q ∙ rw (y_is S h, e));
          numbered = numbered 12 (omega arith) (omega arith);
        }

        module _ (e : x ≡ false) (f : y ≡ false) (w : Bool) (ew : Grown b m (take n s) w) where
          agreeing : (S : State) → Holds b S → Taken s S.items ≡ false → Disagreeing s S.items ≡ false
          agreeing S h q = neighbours S h q ∙ rw (y_is S h, f, x_is S h, e)

          pub misfit_11 : w ≡ true → Misfitting b s 11
          misfit_11 g = record {
            is = λ S h q. first_11 s S.items (agreeing S h q) (sym (growing S h w ew) ∙ g);
            numbered = numbered 11 (omega arith) (omega arith);
          }

          pub misfit_0 : w ≡ false → Misfitting b s 0
          misfit_0 g = record {
            is = λ S h q. first_0 s S.items (agreeing S h q) (sym (growing S h w ew) ∙ g);
            numbered = zero_numbered;
          }

        -- the rows beside r show that 11 does not hold
        module _ (e : x ≡ false) (f : y ≡ false) (u : Bool) (eu : Parted b r (take n s) u) (v : Bool) (ev : Extended b r m (take n s) v) (k : (u || v) ≡ false) where
          module _ (S : State) (h : Holds b S) where
            unparted : 0 < r → parted_at b (r - 1) (prefix_of s) ≡ false
            unparted z =
                ap (parted_at b (r - 1)) (sym (prefix_take s n en)) ∙ ap (λ (t : Bool). t && parted_at b (r - 1) (take n s)) (sym (lt-ltb 0 r z))
                ∙ sym (eu.is h.lies.sound eb.within) ∙ or_false_left u v k

            unextended : r < length S.items → extended_at b r (prefix_of s) ≡ false
            unextended z =
                ap (extended_at b r) (sym (prefix_take s n en)) ∙ ap (λ (t : Bool). t && extended_at b r (take n s)) (sym (lt-ltb r m (omega (arith, m_is S h))))
                ∙ sym (ev.is h.lies.sound ec.low) ∙ or_false_right u v k

            ungrown : Growing s S.items ≡ false
            ungrown =
                none_grown S h.good s r (r_is S h)
                (λ z. ap (λ (a : Bytes). eqb (get_or (prefix_of s) (common (fold a) (fold (prefix_of s))) 0) slash)
                (sym (item_prefix b S h (r - 1) (omega (arith, r_le S h)))) ∙ unparted z)
                (λ z. ap (λ (a : Bytes). extends a (prefix_of s)) (sym (item_prefix b S h r z)) ∙ unextended z)

          pub misfit_apart : Misfitting b s 0
          misfit_apart = record {
            is = λ S h q. first_0 s S.items (neighbours S h q ∙ rw (y_is S h, f, x_is S h, e)) (ungrown S h);
            numbered = zero_numbered;
          }
