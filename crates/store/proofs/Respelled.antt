-- A row that lies last gets another tag and another field 1.
-- Assumes nothing.
use mathlib.Core.Path.{◌≡◌, refl, sym, ap, ap₂, ◌∙◌}
use mathlib.Core.Logic.{◌⊎◌, inl, inr, ⊎_elim}
use Prim.Native.Nat.{ℕ, ◌+◌, ◌-◌, ◌≤◌, ◌<◌, ◌^◌}
use mathlib.Core.List.{List, [], ◌++◌}
use native.Mathlib.Omega.{arith}
use lib.ListN.{length, get_or}
use Rattle.base.specs.Buffer.{part, splice}
use Rattle.store.specs.Buffer.{num4, le4}
use Rattle.store.specs.Layout.{heap_start, heap_size, format_of, cap_of, count_of, used_of, end_of, slot_at, slot_of, slot_bytes, off_of, size_of}
use Rattle.store.specs.Rows.{no_row, row_of, row_at, rows_of, row_size, tabulate, replace_at, respelled, total}
use Rattle.store.specs.Packages.{Sound, Apart, Became, Respelling}
use Rattle.store.specs.Places.{Brought, RespelledBack}
use Rattle.base.proofs.Parts.{length_part, part_none}
use Rattle.base.proofs.Writes.{Write, write, before, after, within, part_all}
use Rattle.store.proofs.Numbers.{num_within, num_before}
use Rattle.store.proofs.SlotNumbers.{slot_size_lem, slot_0, slot_4, slot_8, slot_12, slot_16, slot_20}
use Rattle.store.proofs.Headers.{counts_size, counts_0, counts_4, counts_8, kind_same, rows_count, row_get_or, same_rows_count, same_rows_row}
use Rattle.store.proofs.RowPlaces.{three, row_is, row_same, row_size_lem, length_f0, length_f1, length_f3}
use Rattle.store.proofs.Removing.{size_used}
use Rattle.store.proofs.Moving.{same_or_other}
use Rattle.store.proofs.Tabulated.{tabulate_replace, total_replace}

-- what the row's slot says
module _ (l : List ℕ) (r o a old c u h : ℕ) (so : Sound l) (hr : r < count_of l) (last : (row_at l r).f3 ≡ [])
    (eo : o ≡ off_of (slot_of l r)) (ea : a ≡ num4 (slot_of l r) 4) (ed : old ≡ num4 (slot_of l r) 8) (ec : c ≡ num4 (slot_of l r) 12)
    (eu : u ≡ used_of l) (eh : h ≡ heap_size l) (end : off_of (slot_of l r) + size_of (slot_of l r) ≡ end_of l) where
  inside : heap_start + off_of (slot_of l r) + size_of (slot_of l r) ≤ length l
  inside = omega (arith, so.inside r hr, so.shape.within)

  old_length : length (row_at l r).f1 ≡ old
  old_length = length_f1 l (slot_of l r) inside ∙ sym ed

  none : num4 (slot_of l r) 16 ≡ 0
  none = sym (length_f3 l (slot_of l r) inside) ∙ ap length last

  ends : o + a + old + c ≡ end_of l
  ends = omega (arith, none)

  pub respell_used : u < old → ⊥
  respell_used q = omega (arith, size_used l r so hr)

  module _ (n t k : ℕ) (s m1 m2 m : List ℕ) (en : n ≡ count_of l) (ek : length s ≡ k) (kept : 0 < length (row_at l r).f0) (fits : used_of l + k ≤ cap_of l)
      (room : o + a + k + c ≤ h) (ht : t < 2 ^ 32)
      (w1 : m1 ≡ splice l (heap_start + o + a + k) (part (heap_start + o + a + old) c l)) (w2 : m2 ≡ splice m1 (heap_start + o + a) s)
      (w3 : m ≡ splice (splice m2 (slot_at r) (slot_bytes o a k c 0 t)) 12 (le4 n ++ (le4 (u - old + k) ++ le4 (o + a + k + c)))) where
    m3 : List ℕ
    m3 = splice m2 (slot_at r) (slot_bytes o a k c 0 t)

    few : n ≤ 640
    few = omega (arith, so.shape.few)

    long : heap_start ≤ length l
    long = omega (arith, so.shape.room)

    p1 : Write l m1 (heap_start + o + a + k) c (part (heap_start + o + a + old) c l)
    p1 = write l m1 (heap_start + o + a + k) c (part (heap_start + o + a + old) c l) w1 (length_part (heap_start + o + a + old) c l (omega (arith, inside, none))) (omega (arith, long))

    p2 : Write m1 m2 (heap_start + o + a) k s
    p2 = write m1 m2 (heap_start + o + a) k s w2 ek (omega (arith, long, p1.len))

    p3 : Write m2 m3 (slot_at r) 24 (slot_bytes o a k c 0 t)
    unfolding m3
    p3 = write m2 m3 (slot_at r) 24 (slot_bytes o a k c 0 t) refl (slot_size_lem o a k c 0 t) (omega (arith, few, long, p1.len, p2.len))

    p4 : Write m3 m 12 12 (le4 n ++ (le4 (u - old + k) ++ le4 (o + a + k + c)))
    unfolding m3
    p4 = write m3 m 12 12 _ w3 (counts_size n (u - old + k) (o + a + k + c)) (omega (arith, long, p1.len, p2.len, p3.len))

    heap_kept : (y z : ℕ) → heap_start ≤ y → y + z ≤ length l → part y z m ≡ part y z m2
    heap_kept y z q f = after p4 y z (omega arith) (omega (arith, p1.len, p2.len, p3.len)) ∙ after p3 y z (omega (arith, few)) (omega (arith, p1.len, p2.len))

    below : (y z : ℕ) → heap_start ≤ y → y + z ≤ heap_start + o + a → part y z m ≡ part y z l
    below y z q f = heap_kept y z q (omega (arith, inside)) ∙ before p2 y z (omega arith) ∙ before p1 y z (omega arith)

    slot_other : (i : ℕ) → i < n → (i ≡ r → ⊥) → slot_of m i ≡ slot_of l i
    slot_other i q ne =
        after p4 (slot_at i) 24 (omega arith) (omega (arith, few, long, p1.len, p2.len, p3.len))
        ∙ ⊎_elim (λ z. before p3 (slot_at i) 24 (omega arith)) (λ y. ⊎_elim (λ z. absurd (ne z)) (λ z. after p3 (slot_at i) 24 (omega arith) (omega (arith, few, long, p1.len, p2.len))) y) (three i r)
        ∙ before p2 (slot_at i) 24 (omega (arith, few)) ∙ before p1 (slot_at i) 24 (omega (arith, few))

    slot_here : slot_of m r ≡ slot_bytes o a k c 0 t
    slot_here =
        after p4 (slot_at r) 24 (omega arith) (omega (arith, few, long, p1.len, p2.len, p3.len)) ∙ within p3 (slot_at r) 0 24 (omega arith) (omega arith)
        ∙ part_all 24 (slot_bytes o a k c 0 t) p3.size

    small : o + a + k + c < 2 ^ 32
    small = omega arith

    num_here : (off_of (slot_of m r) ≡ o) × (num4 (slot_of m r) 4 ≡ a) × (num4 (slot_of m r) 8 ≡ k) × (num4 (slot_of m r) 12 ≡ c) × (num4 (slot_of m r) 16 ≡ 0) × (num4 (slot_of m r) 20 ≡ t)
    num_here = rw slot_here (
      slot_0 o a k c 0 t (omega (arith, small)),
      slot_4 o a k c 0 t (omega (arith, small)),
      slot_8 o a k c 0 t (omega (arith, small)),
      slot_12 o a k c 0 t (omega (arith, small)),
      slot_16 o a k c 0 t (omega arith),
      slot_20 o a k c 0 t ht,
    )

    row_here : row_at m r ≡ respelled (row_at l r) t s
    unfolding row_of
    row_here =
        let w = inside in
        let f : heap_start + o + a + old ≡ heap_start + off_of (slot_of l r) + num4 (slot_of l r) 4 + num4 (slot_of l r) 8 = omega arith in
        row_is m (slot_of m r) (respelled (row_at l r) t s) num_here.5
        (rw (num_here.0, num_here.1) (below (heap_start + o) a (omega arith) (omega arith) ∙ ap₂ (λ (x y : ℕ). part (heap_start + x) y l) eo ea))
        (rw (num_here.0, num_here.1, num_here.2) (heap_kept (heap_start + o + a) k (omega arith) (omega (arith, p1.len, p2.fits))
        ∙ within p2 (heap_start + o + a) 0 k (omega arith) (omega arith) ∙ part_all k s ek))
        (rw (num_here.0, num_here.1, num_here.2, num_here.3) (heap_kept (heap_start + o + a + k) c (omega arith) (omega (arith, p1.fits))
        ∙ after p2 (heap_start + o + a + k) c (omega arith) (omega (arith, p1.len, p1.fits)) ∙ within p1 (heap_start + o + a + k) 0 c (omega arith) (omega arith)
        ∙ part_all c (part (heap_start + o + a + old) c l) p1.size ∙ ap₂ (λ (x y : ℕ). part x y l) f ec))
        (part_none _ _ m num_here.4 ∙ sym last)

    -- every other row ends before the row's place
    other_below : (i : ℕ) → i < n → (i ≡ r → ⊥) → off_of (slot_of l i) + size_of (slot_of l i) ≤ o
    other_below i q ne =
        let f = so.filled i (omega arith) in
        let g = so.inside i (omega arith) in
        ⊎_elim (λ z. ⊎_elim (λ v. omega arith) (λ v. absurd (omega arith)) (so.apart i r z hr))
        (λ y. ⊎_elim (λ z. absurd (ne z)) (λ z. ⊎_elim (λ v. absurd (omega arith)) (λ v. omega arith) (so.apart r i z (omega arith))) y) (three i r)

    row_other : (i : ℕ) → i < n → (i ≡ r → ⊥) → row_at m i ≡ row_at l i
    row_other i q ne =
        let f = other_below i q ne in
        row_same l m (slot_of l i) (slot_of m i) (slot_other i q ne) (λ y z v w. below y z (omega arith) (omega arith))

    new_count : count_of m ≡ count_of l
    new_count = num_within p4 12 0 (omega arith) (omega arith) ∙ counts_0 n _ _ (omega (arith, few)) ∙ en

    new_used : used_of m ≡ u - old + k
    new_used = num_within p4 16 4 (omega arith) (omega arith) ∙ counts_4 n _ _ (omega (arith, old_length, so.shape.small, respell_used))

    new_end : end_of m ≡ o + a + k + c
    new_end = num_within p4 20 8 (omega arith) (omega arith) ∙ counts_8 n (u - old + k) _ small

    same_cap : cap_of m ≡ cap_of l
    same_cap = num_before p4 8 (omega arith) ∙ num_before p3 8 (omega arith) ∙ num_before p2 8 (omega arith) ∙ num_before p1 8 (omega arith)

    rows_here : rows_of m ≡ replace_at r (respelled (row_at l r) t s) (rows_of l)
    rows_here =
        ap (λ (v : ℕ). tabulate v (row_at m)) new_count
        ∙ tabulate_replace r (count_of l) (row_at l) (row_at m) _ hr row_here (λ i q ne. row_other i (omega arith) ne)

    new_size : size_of (slot_of m r) ≡ a + k + c
    new_size = omega (arith, num_here)

    -- a row is this one, or its place is before it
    place : (i : ℕ) → i < n → (i ≡ r) ⊎ ((slot_of m i ≡ slot_of l i) × (off_of (slot_of m i) + size_of (slot_of m i) ≤ o))
    place i q = ⊎_elim (λ z. inl z) (λ ne. inr (slot_other i q ne, rw (slot_other i q ne) (other_below i q ne))) (same_or_other i r)

    all_apart : (i j : ℕ) → i < j → j < n → Apart (slot_of m i) (slot_of m j)
    all_apart i j q z =
        let qi : i < n = omega arith in
        ⊎_elim
        (λ e. ⊎_elim (λ y. absurd (omega arith)) (λ y. rw e (inr (omega (arith, num_here.0, y.1)))) (place j z))
        (λ x. ⊎_elim (λ e. rw e (inl (omega (arith, num_here.0, x.1)))) (λ y. rw (x.0, y.0) (so.apart i j q (omega arith))) (place j z)) (place i qi)

    exact_here : total (rows_of m) ≡ used_of m
    exact_here =
        let w : row_size (respelled (row_at l r) t s) ≡ a + k + c = ap row_size (sym row_here) ∙ row_size_lem m (slot_of m r) (omega (arith, num_here, long, p1.len, p2.len, p3.len, p4.len)) ∙ new_size in
        let v : row_size (get_or (rows_of l) r no_row) ≡ size_of (slot_of l r) = ap row_size (row_get_or l r hr) ∙ row_size_lem l (slot_of l r) inside in
        let z = total_replace r (respelled (row_at l r) t s) (rows_of l) (omega (arith, rows_count l)) in
        ap total rows_here ∙ omega (arith, new_used, so.exact, none, size_used l r so hr)

    pub respelled_here : Became l m (replace_at r (respelled (row_at l r) t s) (rows_of l))
    respelled_here = record {
      sound = record {
        marked = kind.0 ∙ so.marked;
        shape = record {
          few = omega (arith, new_count, so.shape.few);
          room = omega (arith, same_cap, so.shape.room, p1.len, p2.len, p3.len, p4.len);
          small = omega (arith, same_cap, so.shape.small);
          used = omega (arith, same_cap, new_used, old_length, size_used l r so hr);
          gaps = omega (arith, new_end, new_used, ends, so.shape.gaps, size_used l r so hr);
          within = omega (arith, new_end, long, p1.len, p2.len, p3.len, p4.len);
        };
        filled = λ i q. let z : i < n = omega (arith, new_count) in
            ⊎_elim (λ e. rw e (omega (arith, new_size, kept, length_f0 l (slot_of l r) inside))) (λ x. rw x.0 (so.filled i (omega arith))) (place i z);
        inside = λ i q. let z : i < n = omega (arith, new_count) in
            ⊎_elim (λ e. rw e (omega (arith, new_size, num_here.0, new_end))) (λ x. omega (arith, x.1, new_end)) (place i z);
        apart = λ i j q z. all_apart i j q (omega (arith, new_count));
        exact = exact_here;
      };
      rows = rows_here;
      cap = same_cap;
      format = kind.1;
    }
      where
        kind : (part 0 7 m ≡ part 0 7 l) × (format_of m ≡ format_of l)
        kind = kind_same l m (omega (arith, long)) (omega (arith, long, p1.len, p2.len, p3.len, p4.len))
            (before p4 0 8 (omega arith) ∙ before p3 0 8 (omega arith) ∙ before p2 0 8 (omega arith) ∙ before p1 0 8 (omega arith))

-- the row was brought behind the others before
pub respelled_brought : (b l m : List ℕ) (n u r t : ℕ) (s : List ℕ) → n ≡ count_of b → u ≡ used_of b → Brought b l r (length s) → RespelledBack l m n u r t s → Sound b → Respelling b r (length s)
    → Became b m (replace_at r (respelled (row_at b r) t s) (rows_of b))
respelled_brought b l m n u r t s en eu br rb so re =
    let w = br.is so in
    let v = w.0.became in
    let count = same_rows_count b l v.rows in
    let er : row_at l r ≡ row_at b r = same_rows_row b l v.rows r re.at in
    let used : used_of l ≡ used_of b = sym v.sound.exact ∙ ap total v.rows ∙ so.exact in
    let rl : Respelling l r (length s) = record { at = omega (arith, re.at); last = rw er re.last; kept = rw er re.kept; fits = omega (arith, re.fits, v.cap) } in
    let z = rb.is v.sound (en ∙ sym count) (eu ∙ sym used) w.0.end rl
    (⊎_elim (λ x. x) (λ x. omega (arith, used, re.fits, v.cap, v.sound.shape.room, v.sound.shape.small)) w.1) in
    record { sound = z.sound; rows = z.rows ∙ rw (er, v.rows) refl; cap = z.cap ∙ v.cap; format = z.format ∙ v.format }
