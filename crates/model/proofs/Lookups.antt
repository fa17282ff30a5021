-- What is found after an insertion and after a removal; a sorted list is known by what is found in it.
-- Assumes nothing.
use Prim.Native.Nat.{ℕ, zero, suc, ◌+◌, ◌<◌}
use mathlib.Core.Path.{◌≡◌, refl, ap, ap₂, sym, ◌∙◌, subst}
use mathlib.Core.Logic.{inl, inr}
use mathlib.Core.Bool.{Bool, true, false, cond, true≢false}
use mathlib.Core.List.{List, [], ◌∷◌}
use mathlib.Core.Option.{none, some, none-ne-some, some-injective}
use native.Mathlib.Omega.{arith}
use lib.ListN.{length, get_or}
use Rattle.base.proofs.Bools.{not_passing}
use Rattle.model.specs.Sets.{Key, before, same_key, sum_of, lookup, insert, remove, Each, OneOf, Sorted}
use Rattle.model.proofs.Lists.{each_map, each_at}
use Rattle.model.proofs.KeyOrders.{same_before, before_trans, before_turn, same_key_refl, same_key_sym, before_not_same, same_key_trans}

module _ {E : Type 0} (key : E → Key) where
  -- another key is found as before
  pub lookup_insert_other : (k : Key) (e : E) (xs : List E) → same_key k (key e) ≡ false → lookup key k (insert key e xs) ≡ lookup key k xs
  unfolding insert lookup
  lookup_insert_other k e [] n = rw n
  lookup_insert_other k e (x ∷ xs) n = go (before (key e) (key x)) (same_key k (key x)) refl (lookup_insert_other k e xs n)
    where
      go :
          (b c : Bool) → same_key k (key x) ≡ c → lookup key k (insert key e xs) ≡ lookup key k xs →
          lookup key k (cond b (e ∷ x ∷ xs) (x ∷ insert key e xs)) ≡ cond c (some x) (lookup key k xs)
      go true c f h = rw (n, f)
      go false true f h = rw f
      go false false f h = rw f h

  pub lookup_remove_other : (k j : Key) (xs : List E) → same_key k j ≡ false → lookup key k (remove key j xs) ≡ lookup key k xs
  unfolding remove lookup
  lookup_remove_other k j [] n = refl
  lookup_remove_other k j (x ∷ xs) n = go (same_key j (key x)) refl (same_key k (key x)) refl (lookup_remove_other k j xs n)
    where
      go :
          (b : Bool) → same_key j (key x) ≡ b → (c : Bool) → same_key k (key x) ≡ c → lookup key k (remove key j xs) ≡ lookup key k xs →
          lookup key k (cond b xs (x ∷ remove key j xs)) ≡ cond c (some x) (lookup key k xs)
      go true e true f h = absurd (true≢false (sym (same_key_trans k j (key x) f e) ∙ n))
      go true e false f h = refl
      go false e true f h = rw f
      go false e false f h = rw f h

  -- a key that stands before all others is not found behind
  past_none : (k : Key) (xs : List E) → Each (λ (x : E). before k (key x) ≡ true) xs → lookup key k xs ≡ none
  unfolding lookup
  past_none k [] h = refl
  past_none k (x ∷ xs) h = rw (before_not_same k (key x) h.0) (past_none k xs h.1)

  -- what was taken out is not found
  pub lookup_removed : (k : Key) (xs : List E) → Sorted key xs → lookup key k (remove key k xs) ≡ none
  unfolding remove lookup
  lookup_removed k [] s = refl
  lookup_removed k (x ∷ xs) s = go (same_key k (key x)) refl (lookup_removed k xs s.1)
    where
      go : (b : Bool) → same_key k (key x) ≡ b → lookup key k (remove key k xs) ≡ none → lookup key k (cond b xs (x ∷ remove key k xs))
          ≡ none
      go true e h =
          past_none k xs
          (each_map (λ (y : E). before (key x) (key y) ≡ true) (λ (y : E). before k (key y) ≡ true) xs
          (λ y l. same_before k (key x) (key y) e l) s.0)
      go false e h = rw e h

  lookup_head : (k : Key) (x : E) (xs : List E) → same_key k (key x) ≡ true → lookup key k (x ∷ xs) ≡ some x
  unfolding lookup
  lookup_head k x xs e = rw e

  lookup_tail : (k : Key) (x : E) (xs : List E) → same_key k (key x) ≡ false → lookup key k (x ∷ xs) ≡ lookup key k xs
  unfolding lookup
  lookup_tail k x xs e = rw e

  -- equal sets are equal lists: a sorted list is known by what is found in it
  pub sorted_unique : (xs ys : List E) → Sorted key xs → Sorted key ys → ((k : Key) → lookup key k xs ≡ lookup key k ys) → xs ≡ ys
  unfolding lookup
  sorted_unique [] [] s t h = refl
  sorted_unique [] (y ∷ ys) s t h = absurd (none-ne-some y (h (key y) ∙ lookup_head (key y) y ys (same_key_refl (key y))))
  sorted_unique (x ∷ xs) [] s t h = absurd (none-ne-some x (sym (h (key x)) ∙ lookup_head (key x) x xs (same_key_refl (key x))))
  sorted_unique (x ∷ xs) (y ∷ ys) s t h = ap₂ ◌∷◌ heads (sorted_unique xs ys s.1 t.1 tails)
    where
      -- a head that stands before the other list is not found there
      not_before : (a b : E) (aa bs : List E) → Sorted key (b ∷ bs) → ((k : Key) → lookup key k (a ∷ aa) ≡ lookup key k (b ∷ bs)) →
          before (key a) (key b) ≡ true → ⊥
      not_before a b aa bs s h l =
          none-ne-some a
          (sym
          (past_none (key a) (b ∷ bs) (
            l,
            each_map (λ (z : E). before (key b) (key z) ≡ true) (λ (z : E). before (key a) (key z) ≡ true) bs
                (λ z m. before_trans (key a) (key b) (key z) l m) s.0,
          ))
          ∙ sym (h (key a)) ∙ lookup_head (key a) a aa (same_key_refl (key a)))

      one_key : (b c : Bool) → before (key x) (key y) ≡ b → same_key (key x) (key y) ≡ c → same_key (key x) (key y) ≡ true
      one_key true c e f = absurd (not_before x y xs ys t h e)
      one_key false true e f = f
      one_key false false e f = absurd (not_before y x ys xs s (λ k. sym (h k)) (before_turn (key x) (key y) e f))

      heads : x ≡ y
      heads =
          some-injective x y
          (sym (lookup_head (key x) x xs (same_key_refl (key x))) ∙ h (key x)
          ∙ lookup_head (key x) y ys (one_key (before (key x) (key y)) (same_key (key x) (key y)) refl refl))

      tails : (k : Key) → lookup key k xs ≡ lookup key k ys
      tails k = go (same_key k (key x)) refl
        where
          go : (b : Bool) → same_key k (key x) ≡ b → lookup key k xs ≡ lookup key k ys
          go true e =
              past_none k xs (each_map (λ (z : E). before (key x) (key z) ≡ true) (λ (z : E). before k (key z) ≡ true) xs
              (λ z l. same_before k (key x) (key z) e l) s.0)
              ∙ sym
              (past_none k ys
              (each_map (λ (z : E). before (key y) (key z) ≡ true) (λ (z : E). before k (key z) ≡ true) ys
              (λ z l. same_before k (key y) (key z) (sym (ap (λ (w : E). same_key k (key w)) heads) ∙ e) l) t.0))
          go false e = sym (lookup_tail k x xs e) ∙ h k ∙ lookup_tail k y ys (sym (ap (λ (w : E). same_key k (key w)) heads) ∙ e)

  -- the entry that is found has the key
  pub lookup_key : (k : Key) (xs : List E) (e : E) → lookup key k xs ≡ some e → same_key k (key e) ≡ true
  unfolding lookup
  lookup_key k [] e h = absurd (none-ne-some e h)
  lookup_key k (x ∷ xs) e h = go (same_key k (key x)) refl h (lookup_key k xs e)
    where
      go : (b : Bool) → same_key k (key x) ≡ b → cond b (some x) (lookup key k xs) ≡ some e →
          (lookup key k xs ≡ some e → same_key k (key e) ≡ true) → same_key k (key e) ≡ true
      go true f h ih = let m : x ≡ e = some-injective x e h in ap (λ (y : E). same_key k (key y)) (sym m) ∙ f
      go false f h ih = ih h

  -- what holds of every entry holds of the one that is found
  pub lookup_each : (P : E → Type 0) (k : Key) (xs : List E) (e : E) → Each P xs → lookup key k xs ≡ some e → P e
  unfolding lookup
  lookup_each P k [] e p h = absurd (none-ne-some e h)
  lookup_each P k (x ∷ xs) e p h = go (same_key k (key x)) h (lookup_each P k xs e p.1)
    where
      go : (b : Bool) → cond b (some x) (lookup key k xs) ≡ some e → (lookup key k xs ≡ some e → P e) → P e
      go true h ih = subst P (some-injective x e h) p.0
      go false h ih = ih h

  -- it is one of them
  pub lookup_one : (k : Key) (xs : List E) (e : E) → lookup key k xs ≡ some e → OneOf e xs
  unfolding lookup
  lookup_one k [] e h = absurd (none-ne-some e h)
  lookup_one k (x ∷ xs) e h = go (same_key k (key x)) h (lookup_one k xs e)
    where
      go : (b : Bool) → cond b (some x) (lookup key k xs) ≡ some e → (lookup key k xs ≡ some e → OneOf e xs) → OneOf e (x ∷ xs)
      go true h ih = inl (sym (some-injective x e h))
      go false h ih = inr (ih h)

  -- an entry of a sorted list is found under its own key
  pub lookup_own : (xs : List E) (n : ℕ) (d : E) → Sorted key xs → n < length xs → lookup key (key (get_or xs n d)) xs ≡ some (get_or xs n d)
  unfolding lookup
  lookup_own [] n d s l = absurd (omega arith)
  lookup_own (x ∷ xs) zero d s l = rw (same_key_refl (key x))
  lookup_own (x ∷ xs) (suc n) d s l =
      let y = get_or xs n d in
      let b = each_at (λ (z : E). before (key x) (key z) ≡ true) xs n d (omega arith) s.0 in
      let other : same_key (key y) (key x) ≡ false =
      not_passing (same_key (key y) (key x)) (λ e. true≢false (sym (same_key_sym (key y) (key x) e) ∙ before_not_same (key x) (key y) b)) in
      rw other (lookup_own xs n d s.1 (omega arith))

  -- what a removal takes away
  pub sum_removed : (f : E → ℕ) (k : Key) (xs : List E) (e : E) → lookup key k xs ≡ some e → sum_of f (remove key k xs) + f e ≡ sum_of f xs
  unfolding lookup remove sum_of
  sum_removed f k [] e h = let z : ◌≡◌ {A = ℕ} 0 1 = cc in absurd (omega arith)
  sum_removed f k (x ∷ xs) e h = go (same_key k (key x)) h (sum_removed f k xs e)
    where
      go :
          (b : Bool) → cond b (some x) (lookup key k xs) ≡ some e →
          (lookup key k xs ≡ some e → sum_of f (remove key k xs) + f e ≡ sum_of f xs) →
          sum_of f (cond b xs (x ∷ remove key k xs)) + f e ≡ f x + sum_of f xs
      go true l h = let m : x ≡ e = cc in omega (arith, ap f m)
      go false l h = omega (arith, h l)
