-- 11 by the rows beside a new item: what its prefix is derivable from ends where it parts from the row before, what is derivable from it
-- comes with a row behind that is it and more.
-- Assumes nothing.
use Prim.Native.Nat.{ℕ, suc, ◌+◌, ◌-◌, ◌≤◌, ◌<◌}
use mathlib.Core.Path.{◌≡◌, refl, ap, ap₂, sym, ◌∙◌, subst}
use mathlib.Core.Bool.{Bool, true, false, not, ◌||◌, cond, true≢false}
use mathlib.Core.List.{List, [], ◌∷◌, ◌++◌, append-nil}
use native.Mathlib.Omega.{arith}
use lib.Dec.{ltb, eqb}
use lib.ListN.{length, get_or, take, drop, length-map, length-drop, length-append}
use borrow.Author.Tests.{le-ltb, ltb-true, ltb-false, lt-ltb, eqb-true, not-true, not-false}
use Rattle.chars.specs.Bytes.{slash}
use Rattle.chars.specs.Lists.{same, begins}
use Rattle.chars.specs.Folding.{lower, fold, equivalent, derivable, order}
use Rattle.chars.specs.FoldedNames.{common}
use Rattle.std.specs.declared.cmp.Ordering.{Ordering}
use Rattle.std.specs.declared.cmp.Ordering.TheVariants.{Less, Equal, Greater}
use Rattle.base.proofs.Bools.{and_right, and_true, not_passing}
use Rattle.chars.proofs.Orders.{order_equal, order_less}
use Rattle.chars.proofs.Derivability.{begins_split, begins_append, derivable_longer, derivable_split, derivable_join, derivable_is, derivable_irrefl}
use Rattle.chars.proofs.FoldedTexts.{take_map}
use Rattle.chars.proofs.CommonStarts.{common_append}
use Rattle.names.specs.Names.{part_name}
use Rattle.model.specs.Sets.{Bytes, before, any}
use Rattle.model.specs.Places.{first_where, bound}
use Rattle.model.specs.Fields.{prefix_of}
use Rattle.model.specs.Package.{no_item, Item, State, item_key, key_of_item, grows}
use Rattle.model.specs.Good.{Good, Beside}
use Rattle.model.proofs.KeyOrders.{text_less, text_greater, before_text}
use Rattle.model.proofs.Lists.{pairs_at, each_at}
use Rattle.model.proofs.Walks.{first_le, first_lt, first_passes, first_le_passing, failing_lt_first, before_first}
use Rattle.model.proofs.Places.{not_before_monotone}
use Rattle.model.proofs.ItemNames.{prefixes_named}
use Rattle.names.proofs.NameEnds.{part_no_slash}
use Rattle.model.proofs.Slashes.{begins_between}
use Rattle.items.specs.Clashes.{extends}

-- a text and what it is the beginning of
less_append : (t : List ℕ) (x : ℕ) (r : List ℕ) → order t (t ++ x ∷ r) ≡ Less
unfolding order
less_append [] x r = refl
less_append (y ∷ t) x r = rw (le-ltb y y (omega arith)) (less_append t x r)

-- between t and a text that begins with t, all begin with t
between_begins : (t a c : List ℕ) → (order a t ≡ Less → ⊥) → (order a c ≡ Greater → ⊥) → begins t c ≡ true → begins t a ≡ true
between_begins t a c h g e = go (order a c) refl
  where
    go : (o : Ordering) → order a c ≡ o → begins t a ≡ true
    go Less f = begins_between t a c h f e
    go Equal f = ap (begins t) (order_equal a c f) ∙ e
    go Greater f = absurd (g f)

not_less : (a c : List ℕ) → (order c a ≡ Greater → ⊥) → order a c ≡ Less → ⊥
not_less a c h e = h (order_less a c e)

-- what is derivable from a is a, a slash and more
slash_append : (s t : List ℕ) → (s ++ slash ∷ []) ++ t ≡ s ++ slash ∷ t
slash_append [] t = refl
slash_append (x ∷ s) t = ap (λ (l : List ℕ). x ∷ l) (slash_append s t)

derived : (p a : Bytes) → derivable p a ≡ true → fold p ≡ fold a ++ slash ∷ drop (length a + 1) (fold p)
derived p a d = derivable_split p a d ∙ slash_append (fold a) (drop (length a + 1) (fold p))

derived_begins : (p a : Bytes) → derivable p a ≡ true → begins (fold a) (fold p) ≡ true
derived_begins p a d = ap (begins (fold a)) (derived p a d) ∙ begins_append (fold a) (slash ∷ drop (length a + 1) (fold p))

derived_less : (p a : Bytes) → derivable p a ≡ true → order (fold a) (fold p) ≡ Less
derived_less p a d = ap (order (fold a)) (derived p a d) ∙ less_append (fold a) slash (drop (length a + 1) (fold p))

-- p is derivable from a, and x begins with a and is not derivable from it: they part where a ends
parts_there : (p a x : Bytes) → derivable p a ≡ true → part_name x ≡ true → begins (fold a) (fold x) ≡ true → derivable x a ≡ false → common (fold x) (fold p) ≡ length a
unfolding common
parts_there p a x d n e u =
    ap₂ common (begins_split (fold a) (fold x) e) (derived p a d)
    ∙ common_append (fold a) y (slash ∷ drop (length a + 1) (fold p)) ∙ go y (begins_split (fold a) (fold x) e)
  where
    y : List ℕ
    y = drop (length (fold a)) (fold x)

    go : (l : List ℕ) → fold x ≡ fold a ++ l → length (fold a) + common l (slash ∷ drop (length a + 1) (fold p)) ≡ length a
    go [] f = rw (length-map a lower) (omega arith)
    go (z ∷ l) f = on (eqb z slash) refl
      where
        on : (t : Bool) → eqb z slash ≡ t → length (fold a) + cond t (suc (common l (drop (length a + 1) (fold p)))) 0 ≡ length a
        on false g = rw (length-map a lower) (omega arith)
        on true g = absurd (more l (f ∙ ap (λ (c : ℕ). fold a ++ c ∷ l) (eqb-true z slash g)))
          where
            more : (l : List ℕ) → fold x ≡ fold a ++ slash ∷ l → ⊥
            more [] k = part_no_slash x (fold a) n k
            more (c ∷ l) k = true≢false (sym (derivable_join x a (c ∷ l) (k ∙ sym (slash_append (fold a) (c ∷ l))) (omega arith)) ∙ u)

begins_equivalent : (y p : Bytes) → begins (fold p) (fold y) ≡ true → equivalent (take (length p) y) p ≡ true
unfolding begins equivalent
begins_equivalent y p e = ap (λ (l : Bytes). same l (fold p)) (sym (take_map lower (length p) y) ∙ ap (λ (n : ℕ). take n (fold y)) (sym (length-map p lower))) ∙ e

-- d is derivable from p, and y begins with p: it is longer, or d is derivable from it
longer_or : (y p d : Bytes) → derivable d p ≡ true → begins (fold p) (fold y) ≡ true → derivable d y ≡ false → length p < length y
longer_or y p d f e u = go (drop (length (fold p)) (fold y)) (begins_split (fold p) (fold y) e)
  where
    go : (l : List ℕ) → fold y ≡ fold p ++ l → length p < length y
    go [] k =
        let same_text : fold y ≡ fold p = k ∙ append-nil (fold p) in
        let long : length p + 1 < length d = derivable_longer d p f in
        let rest : length (drop (length p + 1) (fold d)) ≡ length d - (length p + 1) = length-drop (length p + 1) (fold d) ∙ ap (λ (n : ℕ). n - (length p + 1)) (length-map d lower) in
        absurd (true≢false
        (sym (derivable_join d y (drop (length p + 1) (fold d)) (derivable_split d p f ∙ ap (λ (t : List ℕ). (t ++ slash ∷ []) ++ drop (length p + 1) (fold d)) (sym same_text)) (omega arith)) ∙ u))
    go (x ∷ l) k =
        let n : length (fold y) ≡ length (fold p) + length (x ∷ l) = ap length k ∙ length-append (fold p) (x ∷ l) in
        omega (arith, length-map y lower, length-map p lower)

module _ (S : State) (g : Good S) (s : Bytes) (r : ℕ) (er : r ≡ bound key_of_item (item_key s) S.items) where
  abbrev prefix_at : ℕ → Bytes
  prefix_at m = prefix_of (get_or S.items m no_item).name

  abbrev NotBefore : Item → Bool
  NotBefore i = not (before (key_of_item i) (item_key s))

  abbrev Ordered : Item → Item → Type 0
  Ordered i j = before (key_of_item i) (key_of_item j) ≡ true

  named : (m : ℕ) → m < length S.items → part_name (prefix_at m) ≡ true
  named m l = each_at (λ (i : Item). part_name (prefix_of i.name) ≡ true) S.items m no_item l (prefixes_named S g)

  -- what the prefix is derivable from ends where it parts from the item before
  module _ (m : ℕ) (l : m < length S.items) (d : derivable (prefix_of s) (prefix_at m) ≡ true) where
    ancestor_before : m < r
    ancestor_before =
        let k = failing_lt_first NotBefore S.items m no_item (not_before_monotone key_of_item (item_key s) S.items g.items.sorted) l
        (ap not (text_less (key_of_item (get_or S.items m no_item)) (item_key s) (derived_less (prefix_of s) (prefix_at m) d))) in
        omega arith

    r_le : r ≤ length S.items
    r_le = omega (arith, first_le NotBefore S.items)

    ancestor_ends : common (fold (prefix_at (r - 1))) (fold (prefix_of s)) ≡ length (prefix_at m)
    ancestor_ends = go (ltb m (r - 1)) refl
      where
        go : (t : Bool) → ltb m (r - 1) ≡ t → common (fold (prefix_at (r - 1))) (fold (prefix_of s)) ≡ length (prefix_at m)
        go false e =
            let z : r - 1 ≡ m = omega (arith, ltb-false m (r - 1) e, ancestor_before) in
            ap (λ (i : ℕ). common (fold (prefix_at i)) (fold (prefix_of s))) z
            ∙ parts_there (prefix_of s) (prefix_at m) (prefix_at m) d (named m l) (ap (begins (fold (prefix_at m))) (sym (append-nil (fold (prefix_at m)))) ∙ begins_append (fold (prefix_at m)) [])
            (not_passing (derivable (prefix_at m) (prefix_at m)) (derivable_irrefl (prefix_at m)))
        go true e =
            let k : m < r - 1 = ltb-true m (r - 1) e in
            let j : r - 1 < length S.items = omega (arith, ancestor_before, r_le) in
            let x = prefix_at (r - 1) in
            let a = prefix_at m in
            let above = before_text (key_of_item (get_or S.items m no_item)) (key_of_item (get_or S.items (r - 1) no_item)) (pairs_at Ordered S.items m (r - 1) no_item k j g.items.sorted) in
            let below = before_text (key_of_item (get_or S.items (r - 1) no_item)) (item_key s)
            (not-false (before (key_of_item (get_or S.items (r - 1) no_item)) (item_key s)) (before_first NotBefore S.items (r - 1) no_item (omega (arith, ancestor_before)))) in
            parts_there (prefix_of s) a x d (named (r - 1) j)
            (between_begins (fold a) (fold x) (fold (prefix_of s)) (not_less (fold x) (fold a) above) below (derived_begins (prefix_of s) a d))
            (pairs_at Beside S.items m (r - 1) no_item k j g.beside).underived.1

    ancestor_parts : eqb (get_or (prefix_of s) (common (fold (prefix_at (r - 1))) (fold (prefix_of s))) 0) slash ≡ true
    ancestor_parts =
        let a = prefix_at m in
        ap (λ (n : ℕ). eqb (get_or (prefix_of s) n 0) slash) ancestor_ends
        ∙ and_right (equivalent (take (length a) (prefix_of s)) a) (eqb (get_or (prefix_of s) (length a) 0) slash) (sym (derivable_is (prefix_of s) a (derivable_longer (prefix_of s) a d)) ∙ d)

  -- where a name is derivable from the prefix, the item behind is the prefix and more
  module _ (m : ℕ) (l : m < length S.items) (d : derivable (prefix_at m) (prefix_of s) ≡ true) where
    descendant_behind : r ≤ m
    descendant_behind =
        let k = first_le_passing NotBefore S.items m no_item l
        (ap not (text_greater (key_of_item (get_or S.items m no_item)) (item_key s) (order_less (fold (prefix_of s)) (fold (prefix_at m)) (derived_less (prefix_at m) (prefix_of s) d)))) in
        omega arith

    descendant_extends : extends (prefix_at r) (prefix_of s) ≡ true
    descendant_extends = go (ltb r m) refl
      where
        go : (t : Bool) → ltb r m ≡ t → extends (prefix_at r) (prefix_of s) ≡ true
        go false e =
            let z : r ≡ m = omega (arith, ltb-false r m e, descendant_behind) in
            ap (λ (i : ℕ). extends (prefix_at i) (prefix_of s)) z
            ∙ and_true (ltb (length (prefix_of s)) (length (prefix_at m))) (equivalent (take (length (prefix_of s)) (prefix_at m)) (prefix_of s))
            (lt-ltb (length (prefix_of s)) (length (prefix_at m)) (omega (arith, derivable_longer (prefix_at m) (prefix_of s) d)))
            (begins_equivalent (prefix_at m) (prefix_of s) (derived_begins (prefix_at m) (prefix_of s) d))
        go true e =
            let k : r < m = ltb-true r m e in
            let j : r < length S.items = omega arith in
            let above = before_text (key_of_item (get_or S.items r no_item)) (key_of_item (get_or S.items m no_item)) (pairs_at Ordered S.items r m no_item k l g.items.sorted) in
            let behind : before (key_of_item (get_or S.items r no_item)) (item_key s) ≡ false =
            not-true (before (key_of_item (get_or S.items r no_item)) (item_key s))
            (subst (λ (i : ℕ). NotBefore (get_or S.items i no_item) ≡ true) (sym er) (first_passes NotBefore S.items no_item (omega arith))) in
            let b : begins (fold (prefix_of s)) (fold (prefix_at r)) ≡ true =
            between_begins (fold (prefix_of s)) (fold (prefix_at r)) (fold (prefix_at m))
            (λ f. true≢false (sym (text_less (key_of_item (get_or S.items r no_item)) (item_key s) f) ∙ behind)) above (derived_begins (prefix_at m) (prefix_of s) d) in
            and_true (ltb (length (prefix_of s)) (length (prefix_at r))) (equivalent (take (length (prefix_of s)) (prefix_at r)) (prefix_of s))
            (lt-ltb (length (prefix_of s)) (length (prefix_at r)) (longer_or (prefix_at r) (prefix_of s) (prefix_at m) d b (pairs_at Beside S.items r m no_item k l g.beside).underived.1))
            (begins_equivalent (prefix_at r) (prefix_of s) b)

  pub none_grown :
      (0 < r → eqb (get_or (prefix_of s) (common (fold (prefix_at (r - 1))) (fold (prefix_of s))) 0) slash ≡ false) → (r < length S.items → extends (prefix_at r) (prefix_of s) ≡ false) →
      any (λ (i : Item). grows (prefix_of s) (prefix_of i.name)) S.items ≡ false
  none_grown u v = not_passing (any G S.items) (λ e. at (first_where G S.items) (first_lt G S.items e) (first_passes G S.items no_item (first_lt G S.items e)))
    where
      G : Item → Bool
      G i = grows (prefix_of s) (prefix_of i.name)

      at : (m : ℕ) → m < length S.items → grows (prefix_of s) (prefix_at m) ≡ true → ⊥
      at m l e = go (derivable (prefix_of s) (prefix_at m)) refl e
        where
          go : (t : Bool) → derivable (prefix_of s) (prefix_at m) ≡ t → (t || derivable (prefix_at m) (prefix_of s)) ≡ true → ⊥
          go true f k = true≢false (sym (ancestor_parts m l f) ∙ u (omega (arith, ancestor_before m l f)))
          go false f k = true≢false (sym (descendant_extends m l k) ∙ v (omega (arith, descendant_behind m l k)))
