-- The row of the item that a name asks for.
-- Assumes nothing.
use Prim.Native.Nat.{ℕ, ◌+◌, ◌*◌, ◌/◌, ◌%◌, ◌<◌}
use mathlib.Core.Path.{◌≡◌, refl, ap, ap₂, sym, ◌∙◌, subst}
use mathlib.Core.Bool.{Bool, true, false, beq, cond, true≢false}
use mathlib.Core.List.{List, [], ◌∷◌}
use mathlib.Core.Option.{none, some}
use native.Mathlib.Omega.{arith}
use lib.Dec.{ltb, eqb}
use lib.ListN.{length, get_or, take}
use borrow.Author.Tests.{eqb-true, ltb-true, ltb-false}
use Rattle.chars.specs.Folding.{fold, equivalent}
use Rattle.base.proofs.Bools.{and_right, not_passing}
use Rattle.names.specs.declared.items.Suffix.{Suffix}
use Rattle.model.specs.Sets.{Bytes, Key, is_equal, same_key, lookup, Sorted}
use Rattle.model.specs.Places.{bound, spot}
use Rattle.model.specs.Fields.{prefix_of, suffix_of, last}
use Rattle.model.specs.Package.{no_item, State, Item, rank, item_key, key_of_item, same_last, item_at}
use Rattle.model.proofs.Bools.{beq_refl}
use Rattle.model.proofs.Places.{bound_hit, bound_miss, lookup_at}
use Rattle.model.proofs.Keys.{same_item_key}
use Rattle.model.proofs.KeyOrders.{same_key_sym}
use Rattle.store.specs.Layout.{count_of}
use Rattle.store.specs.Rows.{tag_at}
use Rattle.store.specs.Packages.{Shape}
use Rattle.contract.specs.Rows.{tag_of, second, key_in, row_key}
use Rattle.contract.specs.Holds.{Holds}
use Rattle.contract.specs.Searches.{Bounded, Placed}
use Rattle.contract.proofs.RowSearch.{set_same}
use Rattle.contract.proofs.RowKeys.{tag_small, tag_half, item_row_key}
use Rattle.contract.proofs.RowOrders.{holds_ordered}
use Rattle.contract.proofs.ItemRows.{items_le, item_row_lem, item_tag, item_bound, other_tag}
use Rattle.items.specs.Wants.{Found, Located}
use Rattle.items.proofs.Tags.{tag_odd, tag_is}
use Rattle.items.proofs.Naming.{prefix_take}

-- IN A SORTED SET
beq_true : (a b : Bool) → beq a b ≡ true → a ≡ b
beq_true true true e = refl
beq_true true false e = absurd (true≢false (sym e))
beq_true false true e = absurd (true≢false (sym e))
beq_true false false e = refl

module _ (s : Bytes) (xs : List Item) (sorted : Sorted key_of_item xs) where
  abbrev B : ℕ
  B = bound key_of_item (item_key s) xs

  -- the item at the bound has the key and the mark
  pub at_found : B < length xs → same_key (item_key s) (key_of_item (get_or xs B no_item)) ≡ true → last (suffix_of s) ≡ last (suffix_of (get_or xs B no_item).name)
      → (item_at s xs ≡ some (get_or xs B no_item)) × (B ≡ spot key_of_item (item_key s) xs)
  unfolding item_at
  at_found l e m =
      let p : spot key_of_item (item_key s) xs ≡ B = bound_hit key_of_item (item_key s) xs no_item sorted l e in
      let q : lookup key_of_item (item_key s) xs ≡ some (get_or xs B no_item) =
      lookup_at key_of_item (item_key s) xs no_item (omega arith) ∙ ap (λ (n : ℕ). some (get_or xs n no_item)) p in
      (rw (q, m, beq_refl), sym p)

  -- it has not both
  pub at_missing : (B < length xs → same_key (item_key s) (key_of_item (get_or xs B no_item)) ≡ true → last (suffix_of s) ≡ last (suffix_of (get_or xs B no_item).name) → ⊥) → item_at s xs ≡ none
  unfolding item_at
  at_missing never = go (ltb B (length xs)) refl (same_key (item_key s) (key_of_item (get_or xs B no_item))) refl
    where
      missed : (B < length xs → same_key (item_key s) (key_of_item (get_or xs B no_item)) ≡ false) → same_last (last (suffix_of s)) (lookup key_of_item (item_key s) xs) ≡ none
      missed h = ap (same_last (last (suffix_of s))) (bound_miss key_of_item (item_key s) xs no_item sorted h)

      go : (a : Bool) → ltb B (length xs) ≡ a → (b : Bool) → same_key (item_key s) (key_of_item (get_or xs B no_item)) ≡ b → same_last (last (suffix_of s)) (lookup key_of_item (item_key s) xs) ≡ none
      go false e b f = missed (λ l. absurd (omega (arith, ltb-false B (length xs) e)))
      go true e false f = missed (λ _. f)
      go true e true f =
          let l : B < length xs = ltb-true B (length xs) e in
          let p : spot key_of_item (item_key s) xs ≡ B = bound_hit key_of_item (item_key s) xs no_item sorted l f in
          let q : lookup key_of_item (item_key s) xs ≡ some (get_or xs B no_item) =
          lookup_at key_of_item (item_key s) xs no_item (omega arith) ∙ ap (λ (n : ℕ). some (get_or xs n no_item)) p in
          ap (same_last (last (suffix_of s))) q
          ∙ rw (not_passing (beq (last (suffix_of s)) (last (suffix_of (get_or xs B no_item).name))) (λ y. never l f (beq_true (last (suffix_of s)) (last (suffix_of (get_or xs B no_item).name)) y)))

-- tags are equal where ranks and marks are
tag_same : (x y : Suffix) → rank x ≡ rank y → last x ≡ last y → tag_of x ≡ tag_of y
tag_same x y e f = tag_is x ∙ ap₂ (λ (n : ℕ) (l : Bool). 2 * n + cond l 1 0) e f ∙ sym (tag_is y)

-- ROWS
module _ (b s : Bytes) (n t : ℕ) (en : n ≡ length (prefix_of s)) (et : t ≡ tag_of (suffix_of s)) where
  key_is : (fold (take n s), t / 2 ∷ []) ≡ item_key s
  key_is = ap₂ (λ (p : Bytes) (k : ℕ). (fold p, k ∷ [])) (prefix_take s n en) (ap (λ (k : ℕ). k / 2) et ∙ tag_half (suffix_of s))

  pub bound_of : (r : ℕ) → Bounded b (key_in 0 (take n s) t []) r → (S : State) → Holds b S → r ≡ bound key_of_item (item_key s) S.items
  bound_of r eb S h = item_bound b S h (take n s) t [] r eb ∙ ap (λ (k : Key). bound key_of_item k S.items) key_is

  module _ (r m : ℕ) (em : m ≡ count_of b) (z : Bool) (p : Placed b (key_in 0 (take n s) t []) r z) where
    module _ (S : State) (h : Holds b S) where
      abbrev Same : ℕ → Type 0
      Same i = same_key (item_key s) (key_of_item (get_or S.items i no_item)) ≡ true

      abbrev Marked : ℕ → Type 0
      Marked i = last (suffix_of s) ≡ last (suffix_of (get_or S.items i no_item).name)

      -- whether the item at r has the key
      has_key : r < length S.items → z ≡ same_key (key_of_item (get_or S.items r no_item)) (item_key s)
      unfolding second
      has_key l =
          let y = get_or S.items r no_item in
          p.has (holds_ordered b S h) (omega (arith, items_le b S h))
          ∙ ap (λ (k : Key). same_key k (key_in 0 (take n s) t [])) (ap row_key (item_row_lem b S h r l) ∙ item_row_key y)
          ∙ ap is_equal (set_same 0 (key_of_item y).0 (fold (take n s)) (key_of_item y).1 (t / 2 ∷ []))
          ∙ ap (same_key (key_of_item y)) key_is

      found_at : r < length S.items → z ≡ true → Marked r → (item_at s S.items ≡ some (get_or S.items r no_item)) × (r ≡ spot key_of_item (item_key s) S.items)
      found_at l k o =
          let e = bound_of r p.bounded S h in
          let k : Same r = same_key_sym (key_of_item (get_or S.items r no_item)) (item_key s) (sym (has_key l) ∙ k) in
          subst (λ (i : ℕ). (item_at s S.items ≡ some (get_or S.items i no_item)) × (i ≡ spot key_of_item (item_key s) S.items)) (sym e)
          (at_found s S.items h.good.items.sorted (subst (λ (i : ℕ). i < length S.items) e l) (subst Same e k) (subst Marked e o))

      missing_at : (r < length S.items → Same r → Marked r → ⊥) → Found b s S m
      missing_at never =
          let e = bound_of r p.bounded S h in
          record {
            within = λ k. absurd (omega arith);
            found = λ k. absurd (omega arith);
            place = λ k. absurd (omega arith);
            missing = λ _. at_missing s S.items h.good.items.sorted (subst (λ (i : ℕ). i < length S.items → Same i → Marked i → ⊥) e never);
          }

      inside : r < count_of b → tag_at b r ≡ t → r < length S.items
      inside l g = go (ltb r (length S.items)) refl
        where
          go : (a : Bool) → ltb r (length S.items) ≡ a → r < length S.items
          go true f = ltb-true r (length S.items) f
          go false f = absurd (omega (arith, other_tag b S h r (ltb-false r (length S.items) f) l, tag_small s, g, et))

      marked : (l : r < length S.items) → tag_at b r ≡ t → Marked r
      marked l g =
          sym (tag_odd (suffix_of s)) ∙ ap (λ (u : ℕ). eqb (u % 2) 1) (sym et ∙ sym g ∙ item_tag b S h r l) ∙ tag_odd (suffix_of (get_or S.items r no_item).name)

      -- where the marks and the keys are the same, so are the tags
      tagged : (l : r < length S.items) → Same r → Marked r → tag_at b r ≡ t
      tagged l k o =
          let y = get_or S.items r no_item in
          let q : eqb (rank (suffix_of s)) (rank (suffix_of y.name)) ≡ true =
          and_right (equivalent (prefix_of s) (prefix_of y.name)) (eqb (rank (suffix_of s)) (rank (suffix_of y.name))) (sym (same_item_key s y.name) ∙ k) in
          item_tag b S h r l ∙ sym (tag_same (suffix_of s) (suffix_of y.name) (eqb-true (rank (suffix_of s)) (rank (suffix_of y.name)) q) o) ∙ sym et

      located_at : z ≡ true → tag_at b r ≡ t → Found b s S r
      located_at e g =
          let i = inside (p.inside e) g in
          let f = found_at i e (marked i g) in
          record { within = λ _. i; found = λ _. f.0; place = λ _. f.1; missing = λ j. absurd (omega (arith, p.inside e)) }

    -- EACH WAY OUT
    module _ (u : ℕ) (eu : Shape b → r < count_of b → u ≡ tag_at b r) (e : z ≡ true) where
      pub located : u ≡ t → Located b s r
      located g = record { low = p.bounded.within; is = λ S h. located_at S h e (sym (eu h.lies.sound.shape (p.inside e)) ∙ g) }

      pub located_other : (u ≡ t → ⊥) → Located b s m
      located_other g = record { low = omega arith; is = λ S h. missing_at S h (λ i k o. g (eu h.lies.sound.shape (p.inside e) ∙ tagged S h i k o)) }

    pub located_none : z ≡ false → Located b s m
    located_none e = record {
      low = omega arith;
      is = λ S h. missing_at S h (λ i k o. true≢false (sym (same_key_sym (item_key s) (key_of_item (get_or S.items r no_item)) k) ∙ sym (has_key S h i) ∙ e));
    }
