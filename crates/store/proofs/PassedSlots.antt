-- Bytes of a row passed on to the row that lies last: what the slots then say.
-- Assumes nothing.
use mathlib.Core.Path.{◌≡◌, sym, ap, ◌∙◌}
use mathlib.Core.Logic.{◌⊎◌, inl, inr, ⊎_elim}
use Prim.Native.Nat.{ℕ, ◌+◌, ◌-◌, ◌≤◌, ◌<◌, ◌^◌}
use mathlib.Core.List.{List}
use native.Mathlib.Omega.{arith}
use lib.ListN.{length}
use Rattle.base.specs.Buffer.{part, splice}
use Rattle.store.specs.Buffer.{num4, le4}
use Rattle.store.specs.Layout.{heap_start, count_of, end_of, slot_at, slot_of, off_of, size_of, used_of}
use Rattle.store.specs.Packages.{Sound, Passing}
use Rattle.store.specs.Places.{Sent}
use Rattle.store.proofs.RowPlaces.{three, Like, length_f0, length_f2, length_f3}
use Rattle.store.proofs.SlotWrites.{slot_length, slot_others, slot_kept, slot_now, slot_heap, slot_head}
use Rattle.store.proofs.Removing.{two_used}
use Rattle.store.proofs.SentRows.{Clear, sent_like}

-- what the slots of the two rows say
module _ (l : List ℕ) (k j i from to : ℕ) (so : Sound l) (pa : Passing l j i k) (ef : from ≡ num4 (slot_of l j) 12) (et : to ≡ num4 (slot_of l i) 12) where
  inside_j : heap_start + off_of (slot_of l j) + size_of (slot_of l j) ≤ length l
  inside_j = omega (arith, so.inside j pa.from, so.shape.within)

  inside_i : heap_start + off_of (slot_of l i) + size_of (slot_of l i) ≤ length l
  inside_i = omega (arith, so.inside i pa.to, so.shape.within)

  name_j : 0 < num4 (slot_of l j) 4
  name_j = omega (arith, pa.kept, length_f0 l (slot_of l j) inside_j)

  pub pass_enough : k ≤ from
  pass_enough = omega (arith, pa.enough, length_f2 l (slot_of l j) inside_j)

  pub pass_used : to + from ≤ used_of l
  pass_used = omega (arith, two_used l i j so pa.to pa.from pa.other)

  none_j : num4 (slot_of l j) 16 ≡ 0
  none_j = sym (length_f3 l (slot_of l j) inside_j) ∙ ap length pa.last.0

  none_i : num4 (slot_of l i) 16 ≡ 0
  none_i = sym (length_f3 l (slot_of l i) inside_i) ∙ ap length pa.last.1

-- m is l with k bytes of row j, which end at x + k, passed on to row i, which lay last: sent to the end, then both slots written
pub record Pass (l m1 m2 m : List ℕ) (n e x k j i from to d : ℕ) : Type 0 where
  pub so : Sound l
  pub en : n ≡ count_of l
  pub ee : e ≡ end_of l
  pub pa : Passing l j i k
  pub last : off_of (slot_of l i) + size_of (slot_of l i) ≡ end_of l
  pub ef : from ≡ num4 (slot_of l j) 12
  pub et : to ≡ num4 (slot_of l i) 12
  pub small : from < 2 ^ 32
  pub ex : x + k ≡ off_of (slot_of l j) + size_of (slot_of l j)
  pub hx : x + k ≤ e
  pub sent : Sent l m1 n e x k 0 d
  pub len : length m1 ≡ length l
  pub w1 : m2 ≡ splice m1 (slot_at j + 12) (le4 (from - k))
  pub w2 : m ≡ splice m2 (slot_at i + 12) (le4 (to + k))

module _ {l m1 m2 m : List ℕ} {n e x k j i from to d : ℕ} (W : Pass l m1 m2 m n e x k j i from to d) where
  -- the same of this pass
  pub none_from : num4 (slot_of l j) 16 ≡ 0
  none_from = none_j l k j i from to W.so W.pa W.ef W.et

  pub none_to : num4 (slot_of l i) 16 ≡ 0
  none_to = none_i l k j i from to W.so W.pa W.ef W.et

  pub inside_from : heap_start + off_of (slot_of l j) + size_of (slot_of l j) ≤ length l
  inside_from = inside_j l k j i from to W.so W.pa W.ef W.et

  pub inside_to : heap_start + off_of (slot_of l i) + size_of (slot_of l i) ≤ length l
  inside_to = inside_i l k j i from to W.so W.pa W.ef W.et

  pub name_from : 0 < num4 (slot_of l j) 4
  name_from = name_j l k j i from to W.so W.pa W.ef W.et

  pub enough : k ≤ from
  enough = pass_enough l k j i from to W.so W.pa W.ef W.et

  small_to : to + k < 2 ^ 32
  small_to = omega (arith, pass_used l k j i from to W.so W.pa W.ef W.et, pass_enough l k j i from to W.so W.pa W.ef W.et, W.so.shape.used, W.so.shape.small)

  pub few : n ≤ 640
  few = omega (arith, W.so.shape.few)

  -- row i lies past row j
  pub past : x + k ≤ off_of (slot_of l i)
  past =
      let f = W.so.filled j W.pa.from in
      let g = W.so.inside j W.pa.from in
      ⊎_elim (λ q. ⊎_elim (λ z. absurd (omega arith)) (λ z. omega arith) (W.so.apart i j q W.pa.from))
      (λ v. ⊎_elim (λ q. absurd (W.pa.other q)) (λ q. ⊎_elim (λ z. omega arith) (λ z. absurd (omega arith)) (W.so.apart j i q W.pa.to)) v) (three i j)

  pub clear : (h : ℕ) → h < n → (h ≡ j → ⊥) → (off_of (slot_of l h) + size_of (slot_of l h) ≤ off_of (slot_of l j)) ⊎ (x + k ≤ off_of (slot_of l h))
  clear h q ne =
      ⊎_elim (λ z. ⊎_elim (λ v. inl v) (λ v. inr (omega arith)) (W.so.apart h j z W.pa.from))
      (λ y. ⊎_elim (λ z. absurd (ne z)) (λ z. ⊎_elim (λ v. inr (omega arith)) (λ v. inl v) (W.so.apart j h z (omega arith))) y) (three h j)

  -- no row lies past row i
  pub below_i : (h : ℕ) → h < n → (h ≡ i → ⊥) → off_of (slot_of l h) + size_of (slot_of l h) ≤ off_of (slot_of l i)
  below_i h q ne =
      let f = W.so.filled h (omega arith) in
      let g = W.so.inside h (omega arith) in
      ⊎_elim (λ z. ⊎_elim (λ v. v) (λ v. absurd (omega arith)) (W.so.apart h i z W.pa.to))
      (λ y. ⊎_elim (λ z. absurd (ne z)) (λ z. ⊎_elim (λ v. absurd (omega arith)) (λ v. v) (W.so.apart i h z (omega arith))) y) (three h i)

  pub low_j : off_of (slot_of l j) ≤ x
  low_j = omega (arith, enough)

  pub long : heap_start ≤ length m1
  long = omega (arith, W.so.shape.room)

  pub few_j : j < 640
  few_j = omega (arith, few, W.pa.from)

  pub few_i : i < 640
  few_i = omega (arith, few, W.pa.to)

  pub q12 : 12 + 4 ≤ 24
  q12 = omega arith

  len2 : length m2 ≡ length m1
  len2 = slot_length m1 m2 j 12 (from - k) few_j q12 long W.w1

  pub long2 : heap_start ≤ length m2
  long2 = omega (arith, long, len2)

  pub len3 : length m ≡ length l
  len3 = slot_length m2 m i 12 (to + k) few_i q12 long2 W.w2 ∙ len2 ∙ W.len

  pub is_clear : (h : ℕ) → h < n → (h ≡ j → ⊥) → Clear l x k h
  is_clear h q ne = ⊎_elim (λ z. inl (omega (arith, low_j))) (λ z. inr z) (clear h q ne)

  -- THE SLOTS
  pub heap_kept : (a c : ℕ) → heap_start ≤ a → a + c ≤ length l → part a c m ≡ part a c m1
  heap_kept a c h q = slot_heap m2 m i 12 (to + k) few_i q12 long2 W.w2 a c h (omega (arith, len2)) ∙ slot_heap m1 m2 j 12 (from - k) few_j q12 long W.w1 a c h (omega arith)

  pub head_kept : (c : ℕ) → c + 4 ≤ 64 → num4 m c ≡ num4 m1 c
  head_kept c h = slot_head m2 m i 12 (to + k) few_i q12 long2 W.w2 c h ∙ slot_head m1 m2 j 12 (from - k) few_j q12 long W.w1 c h

  pub slot_other : (h : ℕ) → h < n → (h ≡ i → ⊥) → (h ≡ j → ⊥) → slot_of m h ≡ slot_of m1 h
  slot_other h q ni nj =
      slot_others m2 m i 12 (to + k) few_i q12 long2 W.w2 h (omega (arith, few)) ni ∙ slot_others m1 m2 j 12 (from - k) few_j q12 long W.w1 h (omega (arith, few)) nj

  slot_j : slot_of m j ≡ slot_of m2 j
  slot_j = slot_others m2 m i 12 (to + k) few_i q12 long2 W.w2 j few_j (λ z. W.pa.other (sym z))

  slot_i : slot_of m2 i ≡ slot_of m1 i
  slot_i = slot_others m1 m2 j 12 (from - k) few_j q12 long W.w1 i few_i W.pa.other

  -- of row j: as before, but the length of field 2
  like_j : Like (slot_of l j) (slot_of m1 j)
  like_j = sent_like l m1 n e x k 0 d W.so W.sent W.en W.ee W.hx W.len j (omega (arith, W.pa.from))

  num_j : (c : ℕ) → c + 4 ≤ 24 → (c + 4 ≤ 12) ⊎ (16 ≤ c) → num4 (slot_of m j) c ≡ num4 (slot_of m1 j) c
  num_j c h w = ap (λ (z : List ℕ). num4 z c) slot_j ∙ slot_kept m1 m2 j 12 (from - k) few_j q12 long W.w1 c h w

  pub off_j : off_of (slot_of m j) ≡ off_of (slot_of l j)
  off_j = num_j 0 (omega arith) (inl (omega arith)) ∙ (W.sent.slots j (omega (arith, W.pa.from))).low (omega (arith, W.so.filled j W.pa.from))

  pub n0_j : num4 (slot_of m j) 4 ≡ num4 (slot_of l j) 4
  n0_j = num_j 4 (omega arith) (inl (omega arith)) ∙ like_j.n0

  pub n1_j : num4 (slot_of m j) 8 ≡ num4 (slot_of l j) 8
  n1_j = num_j 8 (omega arith) (inl (omega arith)) ∙ like_j.n1

  pub n2_j : num4 (slot_of m j) 12 ≡ from - k
  n2_j = ap (λ (z : List ℕ). num4 z 12) slot_j ∙ slot_now m1 m2 j 12 (from - k) few_j q12 long W.w1 (omega arith)

  pub n3_j : num4 (slot_of m j) 16 ≡ num4 (slot_of l j) 16
  n3_j = num_j 16 (omega arith) (inr (omega arith)) ∙ like_j.n3

  pub tag_j : num4 (slot_of m j) 20 ≡ num4 (slot_of l j) 20
  tag_j = num_j 20 (omega arith) (inr (omega arith)) ∙ like_j.tag

  -- of row i
  like_i : Like (slot_of l i) (slot_of m1 i)
  like_i = sent_like l m1 n e x k 0 d W.so W.sent W.en W.ee W.hx W.len i (omega (arith, W.pa.to))

  num_i : (c : ℕ) → c + 4 ≤ 24 → (c + 4 ≤ 12) ⊎ (16 ≤ c) → num4 (slot_of m i) c ≡ num4 (slot_of m1 i) c
  num_i c h w = slot_kept m2 m i 12 (to + k) few_i q12 long2 W.w2 c h w ∙ ap (λ (z : List ℕ). num4 z c) slot_i

  pub off_i : off_of (slot_of m i) + d ≡ off_of (slot_of l i)
  off_i = ap (λ (z : ℕ). z + d) (num_i 0 (omega arith) (inl (omega arith))) ∙ (W.sent.slots i (omega (arith, W.pa.to))).high past

  pub n0_i : num4 (slot_of m i) 4 ≡ num4 (slot_of l i) 4
  n0_i = num_i 4 (omega arith) (inl (omega arith)) ∙ like_i.n0

  pub n1_i : num4 (slot_of m i) 8 ≡ num4 (slot_of l i) 8
  n1_i = num_i 8 (omega arith) (inl (omega arith)) ∙ like_i.n1

  pub n2_i : num4 (slot_of m i) 12 ≡ to + k
  n2_i = slot_now m2 m i 12 (to + k) few_i q12 long2 W.w2 small_to

  pub n3_i : num4 (slot_of m i) 16 ≡ num4 (slot_of l i) 16
  n3_i = num_i 16 (omega arith) (inr (omega arith)) ∙ like_i.n3

  pub tag_i : num4 (slot_of m i) 20 ≡ num4 (slot_of l i) 20
  tag_i = num_i 20 (omega arith) (inr (omega arith)) ∙ like_i.tag
