-- The order of keys: total and transitive, and one key where neither is before the other.
-- Assumes nothing.
use mathlib.Core.Path.{◌≡◌, refl, ap, sym, ◌∙◌}
use mathlib.Core.Bool.{true, false, true≢false}
use Rattle.chars.specs.Folding.{order}
use Rattle.std.specs.declared.cmp.Ordering.{Ordering}
use Rattle.std.specs.declared.cmp.Ordering.TheVariants.{Less, Equal, Greater}
use Rattle.chars.proofs.Orders.{less_equal, less_greater, equal_greater, order_refl, order_equal, order_less, order_greater, order_trans}
use Rattle.model.specs.Sets.{Bytes, Key, then_by, key_order, is_less, is_equal, before, same_key}
use Rattle.base.proofs.Bools.{not_passing}

pub key_refl : (a : Key) → key_order a a ≡ Equal
unfolding key_order then_by
key_refl a = rw (order_refl a.0) (order_refl a.1)

-- where the first texts are one, the second ones decide
pub key_second : (a b c : Bytes) → key_order (a, b) (a, c) ≡ order b c
unfolding key_order then_by
key_second a b c = rw (order_refl a)

pub key_equal : (a b : Key) → key_order a b ≡ Equal → (a.0 ≡ b.0) × (a.1 ≡ b.1)
unfolding key_order then_by
key_equal a b h = go (order a.0 b.0) refl h
  where
    go : (o : Ordering) → order a.0 b.0 ≡ o → then_by o (order a.1 b.1) ≡ Equal → (a.0 ≡ b.0) × (a.1 ≡ b.1)
    go Less e h = absurd (less_equal h)
    go Equal e h = (order_equal a.0 b.0 e, order_equal a.1 b.1 h)
    go Greater e h = absurd (equal_greater (sym h))

pub key_greater : (a b : Key) → key_order a b ≡ Greater → key_order b a ≡ Less
unfolding key_order then_by
key_greater a b h = go (order a.0 b.0) refl h
  where
    go : (o : Ordering) → order a.0 b.0 ≡ o → then_by o (order a.1 b.1) ≡ Greater →
        then_by (order b.0 a.0) (order b.1 a.1) ≡ Less
    go Less e h = absurd (less_greater h)
    go Equal e h = rw (order_equal a.0 b.0 e, order_refl b.0) (order_greater a.1 b.1 h)
    go Greater e h = rw (order_greater a.0 b.0 e)

pub key_trans : (a b c : Key) → key_order a b ≡ Less → key_order b c ≡ Less → key_order a c ≡ Less
unfolding key_order then_by
key_trans a b c h k = go (order a.0 b.0) refl (order b.0 c.0) refl h k
  where
    go :
        (o : Ordering) → order a.0 b.0 ≡ o → (o' : Ordering) → order b.0 c.0 ≡ o' → then_by o (order a.1 b.1) ≡ Less →
        then_by o' (order b.1 c.1) ≡ Less →
        then_by (order a.0 c.0) (order a.1 c.1) ≡ Less
    go Less e Less f h k = rw (order_trans a.0 b.0 c.0 e f)
    go Less e Equal f h k = rw (← order_equal b.0 c.0 f, e)
    go Less e Greater f h k = absurd (less_greater (sym k))
    go Equal e Less f h k = rw (order_equal a.0 b.0 e, f)
    go Equal e Equal f h k = rw (order_equal a.0 b.0 e, order_equal b.0 c.0 f, order_refl c.0)
        (order_trans a.1 b.1 c.1 h k)
    go Equal e Greater f h k = absurd (less_greater (sym k))
    go Greater e o' f h k = absurd (less_greater (sym h))

-- equal keys compare alike with a third
pub key_alike : (a b c : Key) → key_order a b ≡ Equal → key_order a c ≡ key_order b c
unfolding key_order
key_alike a b c h =
    let e = key_equal a b h in
    rw (e.0, e.1)

-- THE TESTS
pub is_less_lem : (o : Ordering) → is_less o ≡ true → o ≡ Less
is_less_lem Less e = refl
is_less_lem Equal e = absurd (true≢false (sym e))
is_less_lem Greater e = absurd (true≢false (sym e))

pub is_equal_lem : (o : Ordering) → is_equal o ≡ true → o ≡ Equal
is_equal_lem Less e = absurd (true≢false (sym e))
is_equal_lem Equal e = refl
is_equal_lem Greater e = absurd (true≢false (sym e))

is_greater : (o : Ordering) → is_less o ≡ false → is_equal o ≡ false → o ≡ Greater
is_greater Less e f = absurd (true≢false e)
is_greater Equal e f = absurd (true≢false f)
is_greater Greater e f = refl

pub before_trans : (a b c : Key) → before a b ≡ true → before b c ≡ true → before a c ≡ true
before_trans a b c h k = ap is_less (key_trans a b c (is_less_lem (key_order a b) h) (is_less_lem (key_order b c) k))

pub before_irrefl : (a : Key) → before a a ≡ false
before_irrefl a = ap is_less (key_refl a)

-- of two keys only one is before the other
pub before_asym : (a b : Key) → before a b ≡ true → before b a ≡ false
before_asym a b h = not_passing (before b a) (λ k. true≢false (sym (before_trans a b a h k) ∙ before_irrefl a))

-- neither before nor the same: after
pub before_turn : (a b : Key) → before a b ≡ false → same_key a b ≡ false → before b a ≡ true
before_turn a b h k = ap is_less (key_greater a b (is_greater (key_order a b) h k))

pub same_key_refl : (a : Key) → same_key a a ≡ true
same_key_refl a = ap is_equal (key_refl a)

pub same_key_sym : (a b : Key) → same_key a b ≡ true → same_key b a ≡ true
same_key_sym a b h = ap is_equal (sym (key_alike a b a (is_equal_lem (key_order a b) h)) ∙ key_refl a)

pub same_key_trans : (k j x : Key) → same_key k x ≡ true → same_key j x ≡ true → same_key k j ≡ true
same_key_trans k j x e f =
    let p : key_order k j ≡ key_order x j = key_alike k x j (is_equal_lem (key_order k x) e) in
    let q : key_order j j ≡ key_order x j = key_alike j x j (is_equal_lem (key_order j x) f) in
    ap is_equal (p ∙ sym q ∙ key_refl j)

pub before_not_same : (a b : Key) → before a b ≡ true → same_key a b ≡ false
before_not_same a b h = ap is_equal (is_less_lem (key_order a b) h)

pub same_before : (a b c : Key) → same_key a b ≡ true → before b c ≡ true → before a c ≡ true
same_before a b c e l = ap is_less (key_alike a b c (is_equal_lem (key_order a b) e)) ∙ l

pub before_same : (a b c : Key) → before a b ≡ true → same_key b c ≡ true → before a c ≡ true
unfolding key_order
before_same a b c l e =
    let q = key_equal b c (is_equal_lem (key_order b c) e) in
    let p : key_order a c ≡ key_order a b = rw (q.0, q.1) in
    ap is_less p ∙ l

-- WHERE THE FIRST TEXTS ARE EQUAL, OR NOT. Of three keys in order, if the outer ones begin alike, so does the middle one
pub between : (a b c : Key) → before a b ≡ true → before b c ≡ true → a.0 ≡ c.0 → a.0 ≡ b.0
unfolding key_order then_by
between a b c h k e = go (order a.0 b.0) refl (is_less_lem (key_order a b) h)
  where
    after_it : order b.0 c.0 ≡ Greater → ⊥
    after_it f = less_greater (sym (is_less_lem (key_order b c) k) ∙ ap (λ (o : Ordering). then_by o (order b.1 c.1)) f)

    go : (o : Ordering) → order a.0 b.0 ≡ o → then_by o (order a.1 b.1) ≡ Less → a.0 ≡ b.0
    go Less f l = absurd (after_it (ap (order b.0) (sym e) ∙ order_less a.0 b.0 f))
    go Equal f l = order_equal a.0 b.0 f
    go Greater f l = absurd (less_greater (sym l))

-- of two keys in order that don't begin alike, the first begins less
pub begins_less : (a b : Key) → before a b ≡ true → (a.0 ≡ b.0 → ⊥) → order a.0 b.0 ≡ Less
unfolding key_order then_by
begins_less a b h n = go (order a.0 b.0) refl (is_less_lem (key_order a b) h)
  where
    go : (o : Ordering) → order a.0 b.0 ≡ o → then_by o (order a.1 b.1) ≡ Less → order a.0 b.0 ≡ Less
    go Less f l = f
    go Equal f l = absurd (n (order_equal a.0 b.0 f))
    go Greater f l = absurd (less_greater (sym l))

-- of two keys in order that begin alike, the second texts are in order
pub goes_on_less : (a b : Key) → before a b ≡ true → a.0 ≡ b.0 → order a.1 b.1 ≡ Less
unfolding key_order then_by
goes_on_less a b h e =
    sym (ap (λ (o : Ordering). then_by o (order a.1 b.1)) (ap (λ (s : Bytes). order s b.0) e ∙ order_refl b.0))
    ∙ is_less_lem (key_order a b) h

-- the order of keys, by their first texts
pub text_less : (a c : Key) → order a.0 c.0 ≡ Less → before a c ≡ true
unfolding key_order then_by
text_less a c e = ap (λ (o : Ordering). is_less (then_by o (order a.1 c.1))) e

pub text_greater : (a c : Key) → order a.0 c.0 ≡ Greater → before a c ≡ false
unfolding key_order then_by
text_greater a c e = ap (λ (o : Ordering). is_less (then_by o (order a.1 c.1))) e

pub before_text : (a c : Key) → before a c ≡ true → (order a.0 c.0 ≡ Greater → ⊥)
before_text a c l e = true≢false (sym l ∙ text_greater a c e)
