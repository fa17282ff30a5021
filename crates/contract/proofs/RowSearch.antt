-- Searching rows: how a row stands to a key, and the search by halving.
-- Assumes nothing.
use Prim.Native.Nat.{ℕ, suc, ◌+◌, ◌-◌, ◌/◌, ◌≤◌, ◌<◌}
use mathlib.Core.Path.{◌≡◌, refl, ap, ap₂, sym, ◌∙◌, subst}
use mathlib.Core.Bool.{Bool, true, false, not, cond, true≢false}
use mathlib.Core.List.{List, [], ◌∷◌}
use native.Mathlib.Omega.{arith}
use lib.Dec.{ltb, eqb}
use lib.ListN.{length, get_or}
use borrow.Author.Tests.{lt-ltb, le-ltb, ltb-true, ltb-false}
use Rattle.chars.specs.Folding.{fold, order}
use Rattle.chars.specs.FoldedNames.{common, Shared, OrderPast, Compared}
use Rattle.std.specs.declared.cmp.Ordering.{Ordering}
use Rattle.std.specs.declared.cmp.Ordering.TheVariants.{Less, Equal, Greater}
use Rattle.chars.proofs.CommonStarts.{common_same, common_apart, common_between}
use Rattle.model.specs.Sets.{Bytes, Key, then_by, key_order, is_less, is_equal, before, same_key}
use Rattle.model.specs.Places.{bound}
use Rattle.model.proofs.Lists.{pairs_at}
use Rattle.model.proofs.KeyOrders.{before_same, before_text}
use Rattle.model.proofs.Walks.{first_le, first_le_passing, failing_lt_first, first_at}
use Rattle.model.proofs.Places.{not_before_monotone}
use Rattle.store.specs.Layout.{count_of}
use Rattle.store.specs.Rows.{Row, no_row, row_at, tag_at, rows_of, field_of}
use Rattle.store.specs.Packages.{Shape, Sound}
use Rattle.store.specs.Places.{HeadOf}
use Rattle.store.proofs.Headers.{rows_count, row_get_or}
use Rattle.contract.specs.Rows.{set_of, second, key_in, row_key}
use Rattle.contract.specs.Searches.{Ordered, shares, Stands, Bounded, Placed, Halved, Closing}

-- KEYS WITH A SET IN FRONT
pub set_less : (m n : ℕ) (a c x y : Bytes) → m < n → key_order (m ∷ a, x) (n ∷ c, y) ≡ Less
unfolding key_order order then_by
set_less m n a c x y h = rw (lt-ltb m n h)

pub set_greater : (m n : ℕ) (a c x y : Bytes) → n < m → key_order (m ∷ a, x) (n ∷ c, y) ≡ Greater
unfolding key_order order then_by
set_greater m n a c x y h = let l : n ≤ m = omega arith in rw (le-ltb m n l, lt-ltb n m h)

pub set_same : (n : ℕ) (a c x y : Bytes) → key_order (n ∷ a, x) (n ∷ c, y) ≡ key_order (a, x) (c, y)
unfolding key_order order
set_same n a c x y = rw (le-ltb n n (omega arith))

pub then_less : (x : Ordering) → then_by Less x ≡ Less
unfolding then_by
then_less x = refl

pub then_greater : (x : Ordering) → then_by Greater x ≡ Greater
unfolding then_by
then_greater x = refl

pub then_equal : (o : Ordering) (x y : Ordering) → o ≡ Equal → x ≡ y → x ≡ then_by o y
unfolding then_by
then_equal o x y e f = rw e f

-- HOW A ROW STANDS TO A KEY: of the set, with the text q, which is folded already
module _ (b : List ℕ) (i set : ℕ) (q : Bytes) (t : ℕ) (id : Bytes) (u own : ℕ) (eu : Shape b → i < count_of b → u ≡ tag_at b i) (eo : own ≡ set_of u) where
  abbrev K : Key
  K = (set ∷ q, second set t id)

  own_is : Sound b → i < count_of b → set_of (tag_at b i) ≡ own
  own_is s l = sym (eo ∙ ap set_of (eu s.shape l))

  order_less : own < set → Sound b → i < count_of b → Less ≡ key_order (row_key (row_at b i)) K
  order_less h s l = rw (own_is s l) (sym (set_less own set (fold (row_at b i).f0) q (second own (tag_at b i) (row_at b i).f1) (second set t id) h))

  order_greater : set < own → Sound b → i < count_of b → Greater ≡ key_order (row_key (row_at b i)) K
  order_greater h s l = rw (own_is s l) (sym (set_greater own set (fold (row_at b i).f0) q (second own (tag_at b i) (row_at b i).f1) (second set t id) h))

  -- in the same set
  order_same : own ≡ set → Sound b → i < count_of b →
      then_by (order (fold (field_of (row_at b i) 0)) q) (order (second set u (field_of (row_at b i) 1)) (second set t id)) ≡ key_order (row_key (row_at b i)) K
  unfolding field_of key_order
  order_same n s l = rw (own_is s l, n, set_same set (fold (row_at b i).f0) q (second set (tag_at b i) (row_at b i).f1) (second set t id), eu s.shape l)

  -- what they share: their set, and bytes of their texts
  shares_other : (own ≡ set → ⊥) → Sound b → i < count_of b → shares b i K ≡ 0
  shares_other n s l = common_apart (set_of (tag_at b i)) set (fold (row_at b i).f0) q (λ e. n (sym (own_is s l) ∙ e))

  shares_same : own ≡ set → (f : Bytes) → (Sound b → i < count_of b → f ≡ field_of (row_at b i) 0) → Sound b → i < count_of b → shares b i K ≡ suc (common (fold f) q)
  unfolding field_of
  shares_same n f ef s l = rw (own_is s l, n, common_same set (fold (row_at b i).f0) q, ef s l)

  -- they are of two sets
  pub stands_less : (from : ℕ) → own < set → Stands b i K from Less 0
  stands_less from h = record { is = λ s l _. let e = shares_other (λ n. absurd (omega arith)) s l in (order_less h s l, omega arith) }

  pub stands_greater : (from : ℕ) → set < own → Stands b i K from Greater 0
  stands_greater from h = record { is = λ s l _. let e = shares_other (λ n. absurd (omega arith)) s l in (order_greater h s l, omega arith) }

  -- they are of one: f is the row's text, x that of the key, and c bytes of them are the same
  module _ (n : own ≡ set) (f : Bytes) (ef : Sound b → i < count_of b → f ≡ field_of (row_at b i) 0) (x : Bytes) (ex : x ≡ q) (from : ℕ) (o : Ordering) (c : ℕ)
      (cp : Compared f x from o c) where
    common_is : Sound b → i < count_of b → (0 < from → from < shares b i K) → c ≡ common (fold f) q
    common_is s l h = (subst (λ (y : Bytes). Shared f y from c) ex cp.shared).is (go (ltb 0 from) refl)
      where
        go : (z : Bool) → ltb 0 from ≡ z → from ≤ common (fold f) q
        go true e = let k = h (ltb-true 0 from e) in omega (arith, shares_same n f ef s l)
        go false e = let k = ltb-false 0 from e in omega arith

    pub stands_same : (g : Bytes) → (Sound b → i < count_of b → g ≡ field_of (row_at b i) 1) → (r : Ordering) →
        r ≡ then_by o (order (second set u g) (second set t id)) → Stands b i K from r c
    stands_same g eg r er = record {
      is = λ s l h.
          let e = common_is s l h in
          let k = shares_same n f ef s l in
          let oe : o ≡ order (fold (field_of (row_at b i) 0)) q = (subst (λ (y : Bytes). OrderPast f y c o) ex cp.past).is e ∙ ap (λ (y : Bytes). order (fold y) q) (ef s l) in
          (er ∙ ap₂ (λ (y : Ordering) (v : Bytes). then_by y (order (second set u v) (second set t id))) oe (eg s l) ∙ order_same n s l, omega arith);
    }

    -- decided by the texts
    pub stands_first : (r : Ordering) → o ≡ r → ((v : Ordering) → then_by r v ≡ r) → Stands b i K from o c
    stands_first r e z =
        let v = order (second set u (field_of (row_at b i) 1)) (second set t id) in
        stands_same (field_of (row_at b i) 1) (λ s l. refl) o (e ∙ sym (z v) ∙ ap (λ (y : Ordering). then_by y v) (sym e))

-- where the buffer ends before the row does, it is not sound
pub stands_none : (b : List ℕ) (i : ℕ) (k : Key) (from t a n : ℕ) → HeadOf b i t a n → length b < a + n → Stands b i k from Less 0
stands_none b i k from t a n h l = record { is = λ s _ _. absurd (omega (arith, (h.is s).0)) }

-- THE LEAST KEY OF A SET: no row of the set is before it
least_second : (set t : ℕ) (id : Bytes) → is_less (order (second set t id) (second set 0 [])) ≡ false
unfolding second order
least_second set t id = go (eqb set 0) (eqb set 3) id
  where
    number : (x : ℕ) (q : Bool) → is_less (cond q Greater Equal) ≡ false
    number x true = refl
    number x false = refl

    go : (p q : Bool) (id : Bytes) → is_less (order (cond p (t / 2 ∷ []) (cond q id [])) (cond p (0 / 2 ∷ []) (cond q [] []))) ≡ false
    go true q id = rw (le-ltb (t / 2) 0 (omega arith)) (number t (ltb 0 (t / 2)))
    go false true [] = refl
    go false true (x ∷ id) = refl
    go false false id = refl

least_key : (set t : ℕ) (f id : Bytes) → is_less (then_by (order (fold f) []) (order (second set t id) (second set 0 []))) ≡ false
unfolding then_by order
least_key set t [] id = least_second set t id
least_key set t (x ∷ f) id = refl

module _ (b : List ℕ) (i set : ℕ) (u own : ℕ) (eu : Shape b → i < count_of b → u ≡ tag_at b i) (eo : own ≡ set_of u) where
  pub set_below : own < set → Sound b → i < count_of b → true ≡ before (row_key (row_at b i)) (key_in set [] 0 [])
  set_below h s l = ap is_less (order_less b i set [] 0 [] u own eu eo h s l)

  pub set_not_below : set ≤ own → Sound b → i < count_of b → false ≡ before (row_key (row_at b i)) (key_in set [] 0 [])
  set_not_below h s l = go (ltb set own) refl
    where
      go : (q : Bool) → ltb set own ≡ q → false ≡ before (row_key (row_at b i)) (key_in set [] 0 [])
      go true e = ap is_less (order_greater b i set [] 0 [] u own eu eo (ltb-true set own e) s l)
      go false e =
          let n : own ≡ set = omega (arith, ltb-false set own e) in
          sym (least_key set u (field_of (row_at b i) 0) (field_of (row_at b i) 1)) ∙ ap is_less (order_same b i set [] 0 [] u own eu eo n s l)

-- HALVING
module _ (b : List ℕ) (k : Key) where
  pub halved_all : (n : ℕ) → n ≡ count_of b → Halved b k 0 n
  halved_all n e = record {
    low = omega arith;
    high = omega arith;
    is = λ o. (omega arith, let l = first_le (λ (x : Row). not (before (row_key x) k)) (rows_of b) in omega (arith, l, rows_count b));
  }

  module _ (lo hi m : ℕ) (h : Halved b k lo hi) (l : lo ≤ m) (r : m < hi) (z : Bool) (ez : Ordered b → m < count_of b → z ≡ before (row_key (row_at b m)) k) where
    test : Ordered b → not (before (row_key (get_or (rows_of b) m no_row)) k) ≡ not z
    test s =
        let c : m < count_of b = omega (arith, h.high) in
        rw (row_get_or b m c) (ap not (sym (ez s c)))

    here : m < length (rows_of b)
    here = omega (arith, h.high, rows_count b)

    pub halved_right : z ≡ true → Halved b k (m + 1) hi
    halved_right e = record {
      low = omega arith;
      high = h.high;
      is = λ q. (
        let f = failing_lt_first (λ (x : Row). not (before (row_key x) k)) (rows_of b) m no_row (not_before_monotone row_key k (rows_of b) q.sorted) here (test q ∙ ap not e) in omega (arith, f),
        (h.is q).1,
      );
    }

    pub halved_left : z ≡ false → Halved b k lo m
    halved_left e = record {
      low = l;
      high = omega (arith, h.high);
      is = λ q. ((h.is q).0, first_le_passing (λ (x : Row). not (before (row_key x) k)) (rows_of b) m no_row here (test q ∙ ap not e));
    }

  -- row m has the key
  pub halved_hit : (lo hi m : ℕ) → Halved b k lo hi → m < hi → (Ordered b → Equal ≡ key_order (row_key (row_at b m)) k) → Bounded b k m
  halved_hit lo hi m h r e = record { within = omega (arith, h.high); is = λ q. sym (at q) }
    where
      c : m < count_of b
      c = omega (arith, h.high)

      same_key_lem : Ordered b → same_key (row_key (get_or (rows_of b) m no_row)) k ≡ true
      same_key_lem q = ap (λ (x : Row). same_key (row_key x) k) (row_get_or b m c) ∙ ap is_equal (sym (e q))

      at : Ordered b → bound row_key k (rows_of b) ≡ m
      at q =
          first_at (λ (x : Row). not (before (row_key x) k)) (rows_of b) m no_row (not_before_monotone row_key k (rows_of b) q.sorted) (omega (arith, rows_count b))
          (λ j z.
          ap not (before_same (row_key (get_or (rows_of b) j no_row)) (row_key (get_or (rows_of b) m no_row)) k
          (pairs_at (λ (x y : Row). before (row_key x) (row_key y) ≡ true) (rows_of b) j m no_row (omega arith) (omega (arith, rows_count b)) q.sorted) (same_key_lem q)))
          (λ l. ap not (ap (λ (x : Row). before (row_key x) k) (row_get_or b m c) ∙ ap is_less (sym (e q))))

  pub halved_end : (lo hi : ℕ) → Halved b k lo hi → hi ≤ lo → Bounded b k lo
  halved_end lo hi h e = record { within = omega (arith, h.low, h.high); is = λ q. omega (arith, (h.is q).0, (h.is q).1, h.low) }

-- THE SEARCH FOR A KEY, with what the rows on both sides share with it
module _ (b : List ℕ) (q : Ordered b) where
  -- of two rows, the one before does not come behind by its text
  row_texts_lem : (i j : ℕ) → i < j → j < count_of b → order (row_key (row_at b i)).0 (row_key (row_at b j)).0 ≡ Greater → ⊥
  row_texts_lem i j l h =
      before_text (row_key (row_at b i)) (row_key (row_at b j))
      (ap₂ (λ (x y : Row). before (row_key x) (row_key y)) (sym (row_get_or b i (omega arith))) (sym (row_get_or b j h))
      ∙ pairs_at (λ (x y : Row). before (row_key x) (row_key y) ≡ true) (rows_of b) i j no_row l (omega (arith, rows_count b)) q.sorted)

module _ (b : List ℕ) (k : Key) where
  pub closing_all : (n : ℕ) → n ≡ count_of b → Closing b k 0 n 0 0
  closing_all n e = record {
    halved = halved_all b k n e;
    other = λ q l. absurd (omega arith);
    left = λ q l. absurd (omega arith);
    right = λ q l. absurd (omega arith);
  }

  module _ (lo hi below above m from c : ℕ) (h : Closing b k lo hi below above) (l : lo ≤ m) (r : m < hi) (fl : from ≤ below) (fr : from ≤ above)
      (o : Ordering) (st : Stands b m k from o c) where
    met : m < count_of b
    met = omega (arith, h.halved.high)

    -- as much as both sides share, row m shares
    between : Ordered b → 0 < from → from < shares b m k
    between q p =
        let x = h.left q (omega arith) in
        let y = h.right q (omega arith) in
        common_between (suc from) (row_key (row_at b (lo - 1))).0 (row_key (row_at b m)).0 (row_key (row_at b hi)).0 k.0
        (row_texts_lem b q (lo - 1) m (omega (arith, x.0)) met) (row_texts_lem b q m hi r y.0) (omega (arith, x.1)) (omega (arith, y.1))

    share_here : Ordered b → c ≡ shares b m k - 1
    share_here q = (st.is q.sound met (between q)).1

    order_here : (p : Ordering) → o ≡ p → Ordered b → p ≡ key_order (row_key (row_at b m)) k
    order_here p e q = sym e ∙ (st.is q.sound met (between q)).0

    pub closing_right : o ≡ Less → Closing b k (m + 1) hi c above
    closing_right e = record {
      halved = halved_right b k lo hi m h.halved l r true (λ q _. ap is_less (order_here Less e q)) refl;
      other = h.other;
      left = λ q p.
          let e : m ≡ m + 1 - 1 = omega arith in
          (omega arith, subst (λ (i : ℕ). c < shares b i k) e (omega (arith, share_here q)));
      right = h.right;
    }

    pub closing_left : o ≡ Greater → Closing b k lo m below c
    closing_left e = record {
      halved = halved_left b k lo hi m h.halved l r false (λ q _. ap is_less (order_here Greater e q)) refl;
      other = λ q _. sym (ap is_equal (order_here Greater e q));
      left = h.left;
      right = λ q p. (met, omega (arith, share_here q));
    }

    pub placed_hit : o ≡ Equal → Placed b k m true
    placed_hit e = record {
      bounded = halved_hit b k lo hi m h.halved r (order_here Equal e);
      inside = λ _. met;
      has = λ q _. ap is_equal (order_here Equal e q);
    }

  pub placed_end : (lo hi below above : ℕ) → Closing b k lo hi below above → hi ≤ lo → Placed b k lo false
  placed_end lo hi below above h e = record {
    bounded = halved_end b k lo hi h.halved e;
    inside = λ z. absurd (true≢false (sym z));
    has = λ q l. let n : hi ≡ lo = omega (arith, h.halved.low) in sym (subst (λ (i : ℕ). same_key (row_key (row_at b i)) k ≡ false) n (h.other q (omega arith)));
  }
