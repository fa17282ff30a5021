-- A wanted name, folded once: the array that holds it, and eight bytes compared with eight of it.
-- Assumes nothing.
use Prim.Native.Nat.{ℕ, ◌+◌, ◌-◌, ◌≤◌, ◌<◌, min}
use mathlib.Core.Path.{◌≡◌, refl, ap, sym, ◌∙◌}
use mathlib.Core.Bool.{Bool, true, false, ◌||◌}
use mathlib.Core.List.{List, [], ◌∷◌, map}
use native.Mathlib.Omega.{arith, min_cases}
use lib.Dec.{eqb, ltb}
use lib.ListN.{length, get_or, take, drop, length-map}
use lib.Seq.{take_all}
use borrow.Author.Tests.{eqb-false, ltb-true, ltb-false}
use Rattle.std.specs.Ordering.{nat_cmp}
use Rattle.std.proofs.lemmas.Cmp.{ranked, by_ranked}
use Rattle.base.specs.Buffer.{part}
use Rattle.base.proofs.Bools.{not_passing}
use Rattle.base.proofs.Lists.{drop_take}
use Rattle.chars.specs.Lists.{same}
use Rattle.chars.specs.Folding.{lower, fold, equivalent}
use Rattle.chars.specs.Comparing.{as_is, FoldsAlike, same_eight}
use Rattle.chars.specs.FoldedNames.{HoldsFolding, SharedSome, SharedUpTo, Shared, OrderPast}
use Rattle.std.specs.declared.cmp.Ordering.{Ordering}
use Rattle.chars.proofs.Equivalence.{same_eq}
use Rattle.chars.proofs.Foldings.{get_or_fold}
use Rattle.chars.proofs.FoldedTexts.{take_map, drop_map, fold_fold}
use Rattle.chars.proofs.SameStarts.{map_as_is, same_eight_eq}
use Rattle.chars.proofs.CommonStarts.{common_more, common_next, common_stop, common_end, common_left, common_right, common_right_all, past_equal, past_shorter, past_longer, past_less, past_greater, apart}

-- THE ARRAY
-- what is read off it
module _ (f s : List ℕ) (h : HoldsFolding f s) where
  pub folded_whole : part 0 (length s) f ≡ fold s
  unfolding part
  folded_whole = h.is

  -- the rest of the name
  pub folded_rest : (i : ℕ) → part i (length s - i) f ≡ fold (drop i s)
  unfolding part
  folded_rest i = sym (drop_take i (length s) f) ∙ ap (drop i) h.is ∙ drop_map lower i s

-- what is a folding is folded
pub folded_is : (x s : List ℕ) → x ≡ fold s → fold x ≡ x
folded_is x s e = ap fold e ∙ fold_fold s ∙ sym e

-- w is the text of the name, as a slice of the array
module _ (f s : List ℕ) (h : HoldsFolding f s) (w : List ℕ) (ew : w ≡ part 0 (length s) f) where
  pub text_is : w ≡ fold s
  text_is = ew ∙ folded_whole f s h

  pub text_folded : fold w ≡ w
  text_folded = folded_is w s text_is

  pub text_equivalent : (a : List ℕ) (z : Bool) → z ≡ same (fold a) w → z ≡ equivalent a s
  unfolding equivalent
  text_equivalent a z ez = ez ∙ ap (same (fold a)) text_is

part_folded : (q : List ℕ) (at n : ℕ) → fold q ≡ q → fold (part at n q) ≡ part at n q
unfolding part
part_folded q at n e = sym (take_map lower n (drop at q)) ∙ ap (take n) (sym (drop_map lower at q)) ∙ ap (λ (l : List ℕ). take n (drop at l)) e

-- EIGHT BYTES
read_fold : (f : ℕ → ℕ) → FoldsAlike f → (l : List ℕ) → fold (map f l) ≡ fold l
read_fold f r [] = refl
read_fold f r (x ∷ l) = rw (r x, read_fold f r l)

eight_folded : (f : ℕ → ℕ) → FoldsAlike f → (a q : List ℕ) (i : ℕ) → fold q ≡ q → same_eight f as_is a q i ≡ true → take 8 (drop i (fold a)) ≡ take 8 (drop i q)
unfolding part
eight_folded f r a q i z e =
    ap (take 8) (drop_map lower i a) ∙ take_map lower 8 (drop i a)
    ∙ sym (read_fold f r (take 8 (drop i a)))
    ∙ ap fold (same_eight_eq f as_is a q i e ∙ map_as_is (take 8 (drop i q)))
    ∙ part_folded q i 8 z

agree_folded : (f : ℕ → ℕ) → FoldsAlike f → (a q : List ℕ) (i : ℕ) → fold q ≡ q → (same_eight as_is as_is a q i || same_eight f as_is a q i) ≡ true →
    take 8 (drop i (fold a)) ≡ take 8 (drop i q)
agree_folded f r a q i z e = go (same_eight as_is as_is a q i) refl e
  where
    go : (p : Bool) → same_eight as_is as_is a q i ≡ p → (p || same_eight f as_is a q i) ≡ true → take 8 (drop i (fold a)) ≡ take 8 (drop i q)
    go true h g = eight_folded as_is (λ b. refl) a q i z h
    go false h g = eight_folded f r a q i z g

-- WHAT IS SHARED, so far
pub shared_begin : (a q : List ℕ) (i : ℕ) → i ≤ length a → i ≤ length q → SharedSome a q i i
shared_begin a q i h k = record { left = h; right = k; is = λ l. l }

-- no list is so long
pub shared_past : (a q : List ℕ) (i n : ℕ) → n ≡ min (length a) (length q) → n < i → SharedSome a q i n
shared_past a q i n e l = min_cases (length a) (length q) (SharedSome a q i n) (λ p k. made (omega arith) (omega arith)) (λ p k. made (omega arith) (omega arith))
  where
    made : n ≤ length a → n ≤ length q → SharedSome a q i n
    made h k = record { left = h; right = k; is = λ m. omega (arith, l) }

module _ (a q : List ℕ) (from i : ℕ) (s : SharedSome a q from i) where
  pub shared_more : fold q ≡ q → (f : ℕ → ℕ) → FoldsAlike f → i + 8 ≤ length a → i + 8 ≤ length q →
      (same_eight as_is as_is a q i || same_eight f as_is a q i) ≡ true → SharedSome a q from (i + 8)
  shared_more p f r h k e = record {
    left = h;
    right = k;
    is = λ m. common_more (fold a) q i (s.is m) 8 (omega (arith, length-map a lower)) k (agree_folded f r a q i p e);
  }

  module _ (h : i < length a) (k : i < length q) where
    inside : i < length (fold a)
    inside = omega (arith, length-map a lower)

    -- q is folded: a byte that is the same as it is read is the same folded
    pub shared_byte : fold q ≡ q → (f : ℕ → ℕ) → FoldsAlike f → f (get_or a i 0) ≡ get_or q i 0 → SharedSome a q from (i + 1)
    shared_byte z f r e =
        let p : lower (get_or a i 0) ≡ get_or q i 0 =
        sym (r (get_or a i 0)) ∙ ap lower e ∙ sym (get_or_fold q i) ∙ ap (λ (l : List ℕ). get_or l i 0) z in
        record {
          left = omega arith;
          right = omega arith;
          is = λ m. common_next (fold a) q i (s.is m) inside k (get_or_fold a i ∙ p);
        }

    pub shared_stop : (lower (get_or a i 0) ≡ get_or q i 0 → ⊥) → Shared a q from i
    shared_stop n = record { is = λ m. common_stop (fold a) q i (s.is m) inside k (λ f. n (sym (get_or_fold a i) ∙ f)) }

  -- what is told from there on
  pub shared_on : (c : ℕ) → Shared a q i c → Shared a q from c
  shared_on c t = record { is = λ m. t.is (s.is m) }

  pub shared_end : (n : ℕ) → n ≡ min (length a) (length q) → n ≤ i → Shared a q from i
  shared_end n e l = record { is = λ m. common_end (fold a) q i (s.is m) n (e ∙ ap (λ (k : ℕ). min k (length q)) (sym (length-map a lower))) l }

pub shared_exact : (a q : List ℕ) (from c : ℕ) → SharedUpTo lower a q from c → Shared a q from c
shared_exact a q from c t = go (ltb c (length a)) refl (ltb c (length q)) refl
  where
    end : min (length a) (length q) ≤ c → Shared a q from c
    end h = shared_end a q from c t.some (min (length a) (length q)) refl h

    go : (x : Bool) → ltb c (length a) ≡ x → (y : Bool) → ltb c (length q) ≡ y → Shared a q from c
    go true e true f =
        let h : c < length a = ltb-true c (length a) e in
        let k : c < length q = ltb-true c (length q) f in
        shared_stop a q from c t.some h k (eqb-false (lower (get_or a c 0)) (get_or q c 0) (t.stops h k))
    go true e false f = end (omega (arith, min_cases, ltb-false c (length q) f))
    go false e y f = end (omega (arith, min_cases, ltb-false c (length a) e))

-- THE ORDER
module _ (a q : List ℕ) (c : ℕ) where
  -- o tells how the bytes at c stand to each other
  pub order_bytes : c < length a → c < length q → (o : Ordering) → o ≡ nat_cmp (lower (get_or a c 0)) (get_or q c 0) → OrderPast a q c o
  order_bytes h k o eo =
      let x = lower (get_or a c 0) in
      let y = get_or q c 0 in
      let l : c < length (fold a) = omega (arith, length-map a lower) in
      record {
        is = λ e. by_ranked (x < y) (x ≡ y) (y < x) o (ranked x y o eo)
            (λ z n. z ∙ past_less (fold a) q c e l k (omega (arith, get_or_fold a c)))
            (λ z n. absurd (apart (fold a) q c e l k (get_or_fold a c ∙ n)))
            (λ z n. z ∙ past_greater (fold a) q c e l k (omega (arith, get_or_fold a c)));
      }

  -- o tells how long they are, and one of them ends at c
  pub order_ends : min (length a) (length q) ≤ c → (o : Ordering) → o ≡ nat_cmp (length a) (length q) → OrderPast a q c o
  order_ends n o eo =
      let s = length-map a lower in
      let u = common_left (fold a) q in
      let v = common_right (fold a) q in
      record {
        is = λ e. by_ranked (length a < length q) (length a ≡ length q) (length q < length a) o (ranked (length a) (length q) o eo)
            (λ z l. z ∙ past_shorter (fold a) q c e (omega (arith, min_cases, s)) (omega (arith, min_cases, s, u)))
            (λ z l. z ∙ past_equal (fold a) q c e (omega (arith, min_cases, s)) (omega (arith, min_cases)))
            (λ z l. z ∙ past_longer (fold a) q c e (omega (arith, min_cases, s, v)) (omega (arith, min_cases)));
      }

-- ALL OF IT
pub folds_unlike : (a q : List ℕ) → (length a ≡ length q → ⊥) → false ≡ same (fold a) q
folds_unlike a q n = sym (not_passing (same (fold a) q) (λ e. n (sym (length-map a lower) ∙ ap length (same_eq (fold a) q e))))

pub folds_alike : (a q : List ℕ) (c : ℕ) → length a ≡ length q → Shared a q 0 c → eqb c (length q) ≡ same (fold a) q
folds_alike a q c l s =
    ap (λ (n : ℕ). eqb n (length q)) (s.is (omega arith))
    ∙ common_right_all (fold a) q (omega (arith, length-map a lower))
    ∙ ap (λ (t : List ℕ). same t q) (take_all (length q) (fold a) (omega (arith, length-map a lower)))
