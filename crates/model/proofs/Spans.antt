-- In a sorted set the entries whose keys begin alike stand side by side.
-- Assumes nothing.
use Prim.Native.Nat.{ℕ, suc}
use mathlib.Core.Path.{◌≡◌, refl, ap, ap₂, sym, ◌∙◌}
use mathlib.Core.Bool.{Bool, true, false, not, cond, true≢false}
use mathlib.Core.List.{List, [], ◌∷◌, ◌++◌, append-nil}
use lib.ListN.{take, drop, take-append-drop}
use Rattle.chars.specs.Lists.{same}
use Rattle.chars.specs.Folding.{order}
use Rattle.std.specs.declared.cmp.Ordering.{Ordering}
use Rattle.std.specs.declared.cmp.Ordering.TheVariants.{Less}
use Rattle.chars.proofs.Equivalence.{same_eq, eq_same}
use Rattle.model.specs.Sets.{Bytes, Key, then_by, key_order, is_less, before, filter, Each, Sorted}
use Rattle.model.specs.Places.{first_where, bound, lead}
use Rattle.base.proofs.Bools.{not_passing}
use Rattle.model.proofs.Lists.{each_map, filter_append, filter_all, filter_none}
use Rattle.model.proofs.KeyOrders.{between, begins_less}
use Rattle.model.proofs.Walks.{lead_take}

module _ {E : Type 0} (key : E → Key) (t : Bytes) where
  -- the key begins with the text t
  abbrev pub headed : E → Bool
  headed x = same (key x).0 t

  -- behind an entry of the text and one of another, none has it
  later : (x y z : E) → headed x ≡ true → headed y ≡ false → before (key x) (key y) ≡ true → before (key y) (key z) ≡ true →
      headed z ≡ false
  later x y z m n l k = not_passing (headed z) (λ e. true≢false (sym (eq_same (key y).0 t (sym (x_y e) ∙ x_t)) ∙ n))
    where
      x_t : (key x).0 ≡ t
      x_t = same_eq (key x).0 t m

      x_y : headed z ≡ true → (key x).0 ≡ (key y).0
      x_y e = between (key x) (key y) (key z) l k (x_t ∙ sym (same_eq (key z).0 t e))

  -- behind the run from x no other entry has the text
  pub span_past : (x : E) (ys : List E) → headed x ≡ true → Sorted key (x ∷ ys) →
      Each (λ (y : E). headed y ≡ false) (drop (lead headed ys) ys)
  unfolding first_where
  span_past x [] m s = tt
  span_past x (y ∷ ys) m s = go (headed y) refl (span_past x ys m (s.0.1, s.1.1))
    where
      go :
          (b : Bool) → headed y ≡ b → Each (λ (z : E). headed z ≡ false) (drop (lead headed ys) ys) →
          Each (λ (z : E). headed z ≡ false) (drop (cond (not b) 0 (suc (lead headed ys))) (y ∷ ys))
      go true e h = h
      go false e h = (
        e,
        each_map (λ (z : E). before (key y) (key z) ≡ true) (λ (z : E). headed z ≡ false) ys
            (λ z k. later x y z m e s.0.0 k) s.1.0,
      )

  -- those of the text, where the first entry is one: a run from the start
  pub span_from : (x : E) (ys : List E) → headed x ≡ true → Sorted key (x ∷ ys) → filter headed (x ∷ ys) ≡ x ∷ take (lead headed ys) ys
  unfolding filter
  span_from x ys m s =
      let n = lead headed ys in
      rw m
      (ap (λ (l : List E). x ∷ l)
      (ap (filter headed) (sym (take-append-drop n ys))
      ∙ filter_append headed (take n ys) (drop n ys)
      ∙ ap₂ ◌++◌ (filter_all headed (take n ys) (lead_take headed ys)) (filter_none headed (drop n ys) (span_past x ys m s))
      ∙ append-nil (take n ys)))

  -- those of the text: the run from the bound of a key (t, u) that no key of the text is before
  module _ (u : Bytes) (least : (x : E) → (key x).0 ≡ t → before (key x) (t, u) ≡ false) where
    -- behind an entry of another text that is not before (t, u), none has the text
    greater : (x z : E) → headed x ≡ false → before (key x) (t, u) ≡ false → before (key x) (key z) ≡ true → headed z ≡ false
    unfolding key_order then_by
    greater x z n b l = not_passing (headed z) (λ e. true≢false (sym (less e) ∙ b))
      where
        less : headed z ≡ true → before (key x) (t, u) ≡ true
        less e =
            let z_t : (key z).0 ≡ t = same_eq (key z).0 t e in
            let f : order (key x).0 (key z).0 ≡ Less =
            begins_less (key x) (key z) l (λ q. true≢false (sym (eq_same (key x).0 t (q ∙ z_t)) ∙ n)) in
            ap (λ (o : Ordering). is_less (then_by o (order (key x).1 u))) (ap (order (key x).0) (sym z_t) ∙ f)

    pub span : (xs : List E) → Sorted key xs →
        filter headed xs ≡ take (lead headed (drop (bound key (t, u) xs) xs)) (drop (bound key (t, u) xs) xs)
    unfolding filter first_where
    span [] s = refl
    span (x ∷ xs) s = go (before (key x) (t, u)) refl (headed x) refl (span xs s.1)
      where
        n : ℕ
        n = bound key (t, u) xs

        go :
            (b : Bool) → before (key x) (t, u) ≡ b → (h : Bool) → headed x ≡ h →
            filter headed xs ≡ take (lead headed (drop n xs)) (drop n xs) →
            cond h (x ∷ filter headed xs) (filter headed xs)
            ≡ take (lead headed (drop (cond (not b) 0 (suc n)) (x ∷ xs))) (drop (cond (not b) 0 (suc n)) (x ∷ xs))
        go true b true h ih = absurd (true≢false (sym b ∙ least x (same_eq (key x).0 t h)))
        go true b false h ih = ih
        go false b true h ih = sym (ap (λ (c : Bool). cond c (x ∷ filter headed xs) (filter headed xs)) h) ∙ span_from x xs h s ∙ sym (rw h)
        go false b false h ih =
            filter_none headed xs (each_map (λ (z : E). before (key x) (key z) ≡ true) (λ (z : E). headed z ≡ false) xs
            (λ z l. greater x z h b l) s.0) ∙ sym (rw h)
