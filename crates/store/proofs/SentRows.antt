-- The rows of a package from whose heap some bytes were sent to the end: all that do not meet these bytes read as before.
-- Assumes nothing.
use mathlib.Core.Path.{◌≡◌, sym, ap, ◌∙◌}
use mathlib.Core.Logic.{◌⊎◌, inl, inr, ⊎_elim}
use Prim.Native.Nat.{ℕ, ◌+◌, ◌-◌, ◌≤◌, ◌<◌}
use mathlib.Core.List.{List}
use native.Mathlib.Omega.{arith}
use native.Mathlib.Nat.{zero-add}
use lib.ListN.{length}
use Rattle.base.specs.Buffer.{part}
use Rattle.store.specs.Buffer.{num4}
use Rattle.store.specs.Layout.{heap_start, format_of, cap_of, count_of, used_of, end_of, slot_of, off_of, size_of}
use Rattle.store.specs.Rows.{row_at}
use Rattle.store.specs.Packages.{Sound, Apart}
use Rattle.store.specs.Places.{Sent}
use Rattle.base.proofs.Writes.{part_part}
use Rattle.store.proofs.Numbers.{num4_part}
use Rattle.store.proofs.Headers.{kind_same}
use Rattle.store.proofs.RowPlaces.{Like, row_moved}

-- two slots that agree but for the offset
pub like_tail : (s z : List ℕ) → part 4 20 z ≡ part 4 20 s → Like s z
like_tail s z e = record {
  n0 = num 0 (omega arith);
  n1 = num 4 (omega arith);
  n2 = num 8 (omega arith);
  n3 = num 12 (omega arith);
  tag = num 16 (omega arith);
}
  where
    num : (k : ℕ) → k + 4 ≤ 20 → num4 z (4 + k) ≡ num4 s (4 + k)
    num k h = sym (num4_part 4 20 z k h) ∙ ap (λ (t : List ℕ). num4 t k) e ∙ num4_part 4 20 s k h

-- row i does not meet the k bytes at x
abbrev pub Clear : List ℕ → ℕ → ℕ → ℕ → Type 0
Clear l x k i = (off_of (slot_of l i) + size_of (slot_of l i) ≤ x) ⊎ (x + k ≤ off_of (slot_of l i))

module _ (l m : List ℕ) (n e x k more d : ℕ) (so : Sound l) (s : Sent l m n e x k more d) (en : n ≡ count_of l) (ee : e ≡ end_of l) (hx : x + k ≤ e)
    (len : length m ≡ length l) where
  header : (j : ℕ) → j + 4 ≤ 20 → num4 m j ≡ num4 l j
  header j h = rw zero-add at (sym (num4_part 0 20 m j h) ∙ ap (λ (t : List ℕ). num4 t j) s.kind ∙ num4_part 0 20 l j h)

  pub sent_cap : cap_of m ≡ cap_of l
  sent_cap = header 8 (omega arith)

  pub sent_count : count_of m ≡ count_of l
  sent_count = header 12 (omega arith)

  pub sent_used : used_of m ≡ used_of l
  sent_used = header 16 (omega arith)

  pub sent_kind : (part 0 7 m ≡ part 0 7 l) × (format_of m ≡ format_of l)
  sent_kind =
      let r = so.shape.room in
      kind_same l m (omega arith) (omega arith) (sym (part_part 0 20 0 8 m (omega arith) (omega arith)) ∙ ap (part 0 8) s.kind ∙ part_part 0 20 0 8 l (omega arith) (omega arith))

  pub sent_within : end_of m + heap_start ≤ length m
  sent_within = ⊎_elim (λ z. omega (arith, s.end, so.shape.within)) (λ z. omega (arith, s.end, so.shape.within)) s.room

  pub sent_like : (i : ℕ) → i < n → Like (slot_of l i) (slot_of m i)
  sent_like i h = like_tail (slot_of l i) (slot_of m i) (s.slots i h).same

  pub sent_size : (i : ℕ) → i < n → size_of (slot_of m i) ≡ size_of (slot_of l i)
  sent_size i h = omega (arith, sent_like i h)

  pub clear_row : (i : ℕ) → i < n → Clear l x k i → row_at m i ≡ row_at l i
  clear_row i h c = row_moved l m (slot_of l i) (slot_of m i) (sent_like i h) (λ y z w lo hi q. ⊎_elim (λ v. low y z w lo hi q v) (λ v. high y z w lo hi q v) c)
    where
      low : (y z w : ℕ) → heap_start + off_of (slot_of l i) ≤ z → z + w ≤ heap_start + off_of (slot_of l i) + size_of (slot_of l i) → y + off_of (slot_of l i) ≡ z + off_of (slot_of m i)
          → off_of (slot_of l i) + size_of (slot_of l i) ≤ x → part y w m ≡ part z w l
      low y z w lo hi q v =
          let f = (s.slots i h).low (omega (arith, so.filled i (omega arith))) in
          let g : heap_start + (z - heap_start) ≡ z = omega arith in
          let a : y ≡ heap_start + (z - heap_start) = omega (arith, f) in
          ap (λ (t : ℕ). part t w m) a ∙ s.below (z - heap_start) w (omega arith) ∙ ap (λ (t : ℕ). part t w l) g

      high : (y z w : ℕ) → heap_start + off_of (slot_of l i) ≤ z → z + w ≤ heap_start + off_of (slot_of l i) + size_of (slot_of l i) → y + off_of (slot_of l i) ≡ z + off_of (slot_of m i)
          → x + k ≤ off_of (slot_of l i) → part y w m ≡ part z w l
      high y z w lo hi q v =
          let f = (s.slots i h).high v in
          let g : heap_start + (z - heap_start) ≡ z = omega arith in
          let a : y ≡ heap_start + (z - heap_start - d) = omega (arith, f, s.few) in
          ap (λ (t : ℕ). part t w m) a ∙ s.above (z - heap_start) w (omega arith) (omega (arith, so.inside i (omega arith))) ∙ ap (λ (t : ℕ). part t w l) g

  -- its place is before that of the sent bytes
  pub clear_inside : (i : ℕ) → i < n → Clear l x k i → off_of (slot_of m i) + size_of (slot_of m i) + d ≤ e
  clear_inside i h c =
      let z = sent_size i h in
      ⊎_elim (λ v. let f = (s.slots i h).low (omega (arith, so.filled i (omega arith))) in omega (arith, s.few))
      (λ v. let f = (s.slots i h).high v in omega (arith, so.inside i (omega arith))) c

  -- and apart from those of others as it was
  pub clear_apart : (i j : ℕ) → i < n → j < n → Clear l x k i → Clear l x k j → Apart (slot_of l i) (slot_of l j) → Apart (slot_of m i) (slot_of m j)
  clear_apart i j hi hj ci cj a = ⊎_elim (λ v. ⊎_elim (λ w. both_low v w) (λ w. low_high v w) cj) (λ v. ⊎_elim (λ w. high_low v w) (λ w. both_high v w) cj) ci
    where
      Low : ℕ → Type 0
      Low r = off_of (slot_of l r) + size_of (slot_of l r) ≤ x

      High : ℕ → Type 0
      High r = x + k ≤ off_of (slot_of l r)

      low_place : (r : ℕ) → r < n → Low r → off_of (slot_of m r) ≡ off_of (slot_of l r)
      low_place r h v = (s.slots r h).low (omega (arith, so.filled r (omega arith)))

      both_low : Low i → Low j → Apart (slot_of m i) (slot_of m j)
      both_low v w =
          let f = low_place i hi v in
          let g = low_place j hj w in
          ⊎_elim (λ z. inl (omega (arith, sent_size i hi))) (λ z. inr (omega (arith, sent_size j hj))) a

      both_high : High i → High j → Apart (slot_of m i) (slot_of m j)
      both_high v w =
          let f = (s.slots i hi).high v in
          let g = (s.slots j hj).high w in
          ⊎_elim (λ z. inl (omega (arith, sent_size i hi))) (λ z. inr (omega (arith, sent_size j hj))) a

      low_high : Low i → High j → Apart (slot_of m i) (slot_of m j)
      low_high v w =
          let f = low_place i hi v in
          let g = (s.slots j hj).high w in
          inl (omega (arith, sent_size i hi, s.few))

      high_low : High i → Low j → Apart (slot_of m i) (slot_of m j)
      high_low v w =
          let f = (s.slots i hi).high v in
          let g = low_place j hj w in
          inr (omega (arith, sent_size j hj, s.few))
