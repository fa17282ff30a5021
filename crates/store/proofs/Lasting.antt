-- A row's bytes brought behind those of all others.
-- Assumes nothing.
use mathlib.Core.Path.{◌≡◌, sym, ap, ◌∙◌}
use mathlib.Core.Logic.{inl, inr, ⊎_elim}
use Prim.Native.Nat.{ℕ, ◌+◌, ◌-◌, ◌≤◌, ◌<◌, ◌^◌}
use mathlib.Core.List.{List}
use native.Mathlib.Omega.{arith}
use native.Mathlib.Nat.{add-zero}
use lib.ListN.{length}
use Rattle.base.specs.Buffer.{part, splice}
use Rattle.store.specs.Buffer.{num4, le4}
use Rattle.store.specs.Layout.{heap_start, heap_size, format_of, cap_of, count_of, used_of, end_of, slot_at, slot_of, off_of, size_of}
use Rattle.store.specs.Rows.{row_at, rows_of, tabulate, total}
use Rattle.store.specs.Packages.{Sound, Apart}
use Rattle.store.specs.Places.{Sent, Placed, Last, Close, RowSent, Brought}
use Rattle.base.proofs.Writes.{part_part}
use Rattle.store.proofs.Headers.{same_rows_count}
use Rattle.store.proofs.RowPlaces.{three, Like, row_moved, row_same, same_rows_size}
use Rattle.store.proofs.SlotWrites.{slot_length, slot_others, slot_kept, slot_now, slot_heap, slot_head, slot_kind}
use Rattle.store.proofs.Moving.{same_or_other}
use Rattle.store.proofs.Tabulated.{tabulate_same}
use Rattle.store.proofs.SentRows.{Clear, sent_cap, sent_count, sent_used, sent_kind, sent_within, sent_like, sent_size, clear_row, clear_inside, clear_apart}

-- the place of row r in m, whose bytes were sent to the end
module _ (l m1 m : List ℕ) (n e x k more d r : ℕ) (so : Sound l) (s : Sent l m1 n e x k more d) (en : n ≡ count_of l) (ee : e ≡ end_of l) (hx : x + k ≤ e)
    (len : length m1 ≡ length l) (hr : r < n) (ex : x ≡ off_of (slot_of l r)) (ek : k ≡ size_of (slot_of l r)) (small : e < 2 ^ 32)
    (w : m ≡ splice m1 (slot_at r) (le4 (e - d))) where
  few : n ≤ 640
  few = omega (arith, so.shape.few)

  clear : (i : ℕ) → i < n → (i ≡ r → ⊥) → Clear l x k i
  clear i h ne =
      ⊎_elim (λ q. ⊎_elim (λ z. inl (omega arith)) (λ z. inr (omega arith)) (so.apart i r q (omega arith)))
      (λ v. ⊎_elim (λ q. absurd (ne q)) (λ q. ⊎_elim (λ z. inr (omega arith)) (λ z. inl (omega arith)) (so.apart r i q (omega arith))) v) (three i r)

  long : heap_start ≤ length m1
  long = omega (arith, so.shape.room)

  few_r : r < 640
  few_r = omega (arith, few)

  q0 : 0 + 4 ≤ 24
  q0 = omega arith

  -- the offset of its slot was written
  w0 : m ≡ splice m1 (slot_at r + 0) (le4 (e - d))
  w0 = rw add-zero w

  len_here : length m ≡ length m1
  len_here = slot_length m1 m r 0 (e - d) few_r q0 long w0

  slot_other : (i : ℕ) → i < n → (i ≡ r → ⊥) → slot_of m i ≡ slot_of m1 i
  slot_other i h ne = slot_others m1 m r 0 (e - d) few_r q0 long w0 i (omega (arith, few)) ne

  heap_kept : (a c : ℕ) → heap_start ≤ a → a + c ≤ length m1 → part a c m ≡ part a c m1
  heap_kept a c h q = slot_heap m1 m r 0 (e - d) few_r q0 long w0 a c h q

  -- row r
  num_here : (c : ℕ) → 4 ≤ c → c + 4 ≤ 24 → num4 (slot_of m r) c ≡ num4 (slot_of m1 r) c
  num_here c h q = slot_kept m1 m r 0 (e - d) few_r q0 long w0 c q (inr (omega arith))

  like_here : Like (slot_of l r) (slot_of m r)
  like_here =
      let k = sent_like l m1 n e x k more d so s en ee hx len r hr in
      record {
        n0 = num_here 4 (omega arith) (omega arith) ∙ k.n0;
        n1 = num_here 8 (omega arith) (omega arith) ∙ k.n1;
        n2 = num_here 12 (omega arith) (omega arith) ∙ k.n2;
        n3 = num_here 16 (omega arith) (omega arith) ∙ k.n3;
        tag = num_here 20 (omega arith) (omega arith) ∙ k.tag;
      }

  size_here : size_of (slot_of m r) ≡ k
  size_here = omega (arith, like_here)

  place_here : off_of (slot_of m r) ≡ e - d
  place_here = slot_now m1 m r 0 (e - d) few_r q0 long w0 (omega arith)

  room_here : heap_start + (e - d) + k ≤ length m1
  room_here = omega (arith, s.end, s.few, sent_within l m1 n e x k more d so s en ee hx len)

  row_here : row_at m r ≡ row_at l r
  row_here = row_moved l m (slot_of l r) (slot_of m r) like_here
      (λ y z c lo hi q.
      let i : ℕ = z - (heap_start + x) in
      let f : heap_start + x + i ≡ z = omega arith in
      let g : y ≡ heap_start + (e - d) + i = omega (arith, place_here) in
      let t : heap_start + x + k ≤ length l = omega (arith, so.shape.within) in
      heap_kept y c (omega (arith, place_here)) (omega (arith, place_here, room_here)) ∙ ap (λ (v : ℕ). part v c m1) g
      ∙ sym (part_part (heap_start + (e - d)) k i c m1 (omega arith) room_here) ∙ ap (part i c) s.sent ∙ part_part (heap_start + x) k i c l (omega arith) t
      ∙ ap (λ (v : ℕ). part v c l) f)

  row_other : (i : ℕ) → i < n → (i ≡ r → ⊥) → row_at m i ≡ row_at l i
  row_other i h ne =
      let c = clear_inside l m1 n e x k more d so s en ee hx len i h (clear i h ne) in
      row_same m1 m (slot_of m1 i) (slot_of m i) (slot_other i h ne) (λ y z lo hi. heap_kept y z (omega arith) (omega (arith, so.shape.within)))
      ∙ clear_row l m1 n e x k more d so s en ee hx len i h (clear i h ne)

  head_kept : (j : ℕ) → j + 4 ≤ 64 → num4 m j ≡ num4 m1 j
  head_kept j h = slot_head m1 m r 0 (e - d) few_r q0 long w0 j h

  same_count : count_of m ≡ count_of l
  same_count = head_kept 12 (omega arith) ∙ sent_count l m1 n e x k more d so s en ee hx len

  same_cap : cap_of m ≡ cap_of l
  same_cap = head_kept 8 (omega arith) ∙ sent_cap l m1 n e x k more d so s en ee hx len

  same_used : used_of m ≡ used_of l
  same_used = head_kept 16 (omega arith) ∙ sent_used l m1 n e x k more d so s en ee hx len

  new_end : end_of m + d ≡ e + k
  new_end = ap (λ (v : ℕ). v + d) (head_kept 20 (omega arith)) ∙ s.end

  same_rows : rows_of m ≡ rows_of l
  same_rows =
      ap (λ (v : ℕ). tabulate v (row_at m)) same_count
      ∙ tabulate_same (count_of l) (row_at l) (row_at m) (λ i h. ⊎_elim (λ z. rw z row_here) (λ ne. row_other i (omega arith) ne) (same_or_other i r))

  other_inside : (i : ℕ) → i < n → (i ≡ r → ⊥) → off_of (slot_of m i) + size_of (slot_of m i) + d ≤ e
  other_inside i h ne = rw (slot_other i h ne) (clear_inside l m1 n e x k more d so s en ee hx len i h (clear i h ne))

  all_apart : (i j : ℕ) → i < j → j < n → Apart (slot_of m i) (slot_of m j)
  all_apart i j h q =
      let hi : i < n = omega arith in
      ⊎_elim
      (λ z. let v = other_inside j q (λ y. omega arith) in rw z (inr (omega (arith, place_here))))
      (λ ni. ⊎_elim
      (λ z. let v = other_inside i hi ni in rw z (inl (omega (arith, place_here))))
      (λ nj. rw (slot_other i hi ni, slot_other j q nj)
      (clear_apart l m1 n e x k more d so s en ee hx len i j hi q (clear i hi ni) (clear j q nj) (so.apart i j h (omega arith)))) (same_or_other j r)) (same_or_other i r)

  kind : (part 0 7 m ≡ part 0 7 m1) × (format_of m ≡ format_of m1)
  kind = slot_kind m1 m r 0 (e - d) few_r q0 long w0

  sound_here : Sound m
  sound_here = record {
    marked = kind.0 ∙ (sent_kind l m1 n e x k more d so s en ee hx len).0 ∙ so.marked;
    shape = record {
      few = omega (arith, same_count, so.shape.few);
      room = omega (arith, same_cap, so.shape.room, len_here);
      small = omega (arith, same_cap, so.shape.small);
      used = omega (arith, same_cap, same_used, so.shape.used);
      gaps = omega (arith, new_end, same_used, so.shape.gaps, s.few);
      within = omega (arith, new_end, s.end, len_here, sent_within l m1 n e x k more d so s en ee hx len);
    };
    filled = λ i h. let q : i < n = omega (arith, same_count) in
        ⊎_elim (λ z. rw z (omega (arith, size_here, so.filled r (omega arith))))
        (λ ne. rw (slot_other i q ne) (omega (arith, sent_size l m1 n e x k more d so s en ee hx len i q, so.filled i (omega arith)))) (same_or_other i r);
    inside = λ i h. let q : i < n = omega (arith, same_count) in
        ⊎_elim (λ z. rw z (omega (arith, size_here, place_here, new_end, s.few))) (λ ne. omega (arith, other_inside i q ne, new_end)) (same_or_other i r);
    apart = λ i j h q. all_apart i j h (omega (arith, same_count));
    exact = ap total same_rows ∙ so.exact ∙ sym same_used;
  }

  pub last_sent : Close l (k + more) → Last l m r × Close m more
  last_sent c = (
    record {
      became = record { sound = sound_here; rows = same_rows; cap = same_cap; format = kind.1 ∙ (sent_kind l m1 n e x k more d so s en ee hx len).1 };
      end = omega (arith, size_here, place_here, new_end, s.few);
    },
    ⊎_elim
        (λ y. ⊎_elim (λ z. inl (omega (arith, new_end, len_here))) (λ z. inr (omega (arith, new_end, same_used))) c)
        (λ y. inl (omega (arith, new_end, len_here))) s.room,
  )

-- in a sound package the row lies before the end, and the end in the heap
module _ (b : List ℕ) (n r s e o h : ℕ) (so : Sound b) (en : n ≡ count_of b) (hr : r < n) (es : s ≡ size_of (slot_of b r)) (ee : (e ≡ end_of b) × (e < 2 ^ 32)) where
  pub end_inside : h ≡ heap_size b → h < e → ⊥
  end_inside eh q = omega (arith, so.shape.within)

  pub row_inside : o ≡ off_of (slot_of b r) → e < o + s → ⊥
  row_inside eo q = omega (arith, so.inside r (omega arith))

-- the rows were gathered or left where they were, then the row was sent
pub brought_sent : (b l m : List ℕ) (n r s k at : ℕ) → n ≡ count_of b → r < count_of b → s ≡ size_of (slot_of b r) → (Sound b → Placed b l (s + k) at) → RowSent l m n r s k → Brought b m r k
brought_sent b l m n r s k at en hr es place w = record {
  is = λ so.
      let pl = place so in
      let sent = w.is pl.sound (en ∙ sym (same_rows_count b l pl.rows)) (omega arith) (es ∙ sym (same_rows_size b l so pl.sound pl.rows r hr))
      (⊎_elim (λ z. inl (omega (arith, pl.end))) (λ z. inr (omega (arith, pl.end))) pl.close) in
      let t = sent.0.became in (
        record {
          became = record { sound = t.sound; rows = t.rows ∙ pl.rows; cap = t.cap ∙ pl.cap; format = t.format ∙ pl.format };
          end = sent.0.end;
        },
        sent.1,
      );
}
