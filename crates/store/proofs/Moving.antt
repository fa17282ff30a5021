-- A row's bytes are moved down to c, where no other row's lie: the rows read as before.
-- Assumes nothing.
use mathlib.Core.Path.{◌≡◌, sym, ap, ◌∙◌}
use mathlib.Core.Logic.{◌⊎◌, inl, inr, ⊎_elim}
use Prim.Native.Nat.{ℕ, ◌+◌, ◌-◌, ◌≤◌, ◌<◌, ◌^◌}
use mathlib.Core.List.{List}
use native.Mathlib.Omega.{arith}
use native.Mathlib.Nat.{add-zero}
use lib.ListN.{length}
use Rattle.base.specs.Buffer.{part}
use Rattle.store.specs.Buffer.{num4, le4}
use Rattle.store.specs.Layout.{heap_start, format_of, cap_of, count_of, used_of, end_of, slot_at, slot_of, off_of, size_of}
use Rattle.store.specs.Rows.{row_at, rows_of, tabulate, total}
use Rattle.store.specs.Packages.{Sound, Apart}
use Rattle.store.proofs.Numbers.{num4_part, num4_le4, num_within, num_before, num_after}
use Rattle.base.proofs.Writes.{Write, before, after, within, part_part}
use Rattle.store.proofs.Headers.{kind_same}
use Rattle.store.proofs.RowPlaces.{three, Like, row_moved, row_same}
use Rattle.store.proofs.Tabulated.{tabulate_same}

-- m is b with the place of row r moved to c, and nothing else of what is read changed
pub record Moved (b m : List ℕ) (r c : ℕ) : Type 0 where
  pub sound : Sound m
  pub rows : rows_of m ≡ rows_of b
  pub count : count_of m ≡ count_of b
  pub cap : cap_of m ≡ cap_of b
  pub format : format_of m ≡ format_of b
  pub used : used_of m ≡ used_of b
  pub end : end_of m ≡ end_of b
  pub place : off_of (slot_of m r) ≡ c
  pub size : size_of (slot_of m r) ≡ size_of (slot_of b r)
  pub others : (i : ℕ) → i < count_of b → (i ≡ r → ⊥) → slot_of m i ≡ slot_of b i

-- an index is r, or another
pub same_or_other : (i r : ℕ) → (i ≡ r) ⊎ (i ≡ r → ⊥)
same_or_other i r = ⊎_elim (λ h. inr (λ e. omega arith)) (λ w. ⊎_elim (λ e. inl e) (λ h. inr (λ e. omega arith)) w) (three i r)

module _ (b b1 m : List ℕ) (r c o k : ℕ) (so : Sound b) (hr : r < count_of b) (eo : off_of (slot_of b r) ≡ o) (ek : size_of (slot_of b r) ≡ k) (hc : c ≤ o) (small : c < 2 ^ 32)
    (clear : (i : ℕ) → i < count_of b → (i ≡ r → ⊥) → (off_of (slot_of b i) + size_of (slot_of b i) ≤ c) ⊎ (o + k ≤ off_of (slot_of b i)))
    (p1 : Write b b1 (heap_start + c) k (part (heap_start + o) k b))
    (p2 : Write b1 m (slot_at r) 4 (le4 c)) where
  few : r < 640
  few = omega (arith, so.shape.few)

  room : heap_start + o + k ≤ length b
  room = omega (arith, so.inside r hr, so.shape.within)

  slot_other : (i : ℕ) → i < count_of b → (i ≡ r → ⊥) → slot_of m i ≡ slot_of b i
  slot_other i h ne =
      let l : i < 640 = omega (arith, so.shape.few) in
      ⊎_elim (λ q. before p2 (slot_at i) 24 (omega arith) ∙ before p1 (slot_at i) 24 (omega arith))
      (λ w. ⊎_elim (λ e. absurd (ne e)) (λ q. after p2 (slot_at i) 24 (omega arith) (omega arith) ∙ before p1 (slot_at i) 24 (omega arith)) w) (three i r)

  place_here : off_of (slot_of m r) ≡ c
  place_here =
      let e = num4_part (slot_at r) 24 m 0 (omega arith) in
      (rw add-zero at e) ∙ num_within p2 (slot_at r) 0 (omega arith) (omega arith) ∙ num4_le4 c small

  -- the slot's other numbers
  num_here : (x : ℕ) → 4 ≤ x → x + 4 ≤ 24 → num4 (slot_of m r) x ≡ num4 (slot_of b r) x
  num_here x h q =
      num4_part (slot_at r) 24 m x q ∙ num_after p2 (slot_at r + x) (omega arith) (omega (arith, few)) ∙ num_before p1 (slot_at r + x) (omega (arith, few))
      ∙ sym (num4_part (slot_at r) 24 b x q)

  like_here : Like (slot_of b r) (slot_of m r)
  like_here = record {
    n0 = num_here 4 (omega arith) (omega arith);
    n1 = num_here 8 (omega arith) (omega arith);
    n2 = num_here 12 (omega arith) (omega arith);
    n3 = num_here 16 (omega arith) (omega arith);
    tag = num_here 20 (omega arith) (omega arith);
  }

  size_here : size_of (slot_of m r) ≡ size_of (slot_of b r)
  size_here = omega (arith, like_here)

  row_here : row_at m r ≡ row_at b r
  row_here = row_moved b m (slot_of b r) (slot_of m r) like_here
      (λ x y n h q e.
      let f : heap_start + o + (x - (heap_start + c)) ≡ y = omega (arith, place_here) in
      after p2 x n (omega (arith, few, place_here)) (omega (arith, room, place_here))
      ∙ within p1 x (x - (heap_start + c)) n (omega (arith, place_here)) (omega (arith, place_here))
      ∙ part_part (heap_start + o) k (x - (heap_start + c)) n b (omega (arith, place_here)) room
      ∙ ap (λ (z : ℕ). part z n b) f)

  row_other : (i : ℕ) → i < count_of b → (i ≡ r → ⊥) → row_at m i ≡ row_at b i
  row_other i h ne = row_same b m (slot_of b i) (slot_of m i) (slot_other i h ne)
      (λ x n v w.
      let l : x + n ≤ length b = omega (arith, so.inside i h, so.shape.within) in
      after p2 x n (omega (arith, few)) (omega arith)
      ∙ ⊎_elim (λ z. before p1 x n (omega arith)) (λ z. after p1 x n (omega arith) l) (clear i h ne))

  same_count : count_of m ≡ count_of b
  same_count = num_before p2 12 (omega arith) ∙ num_before p1 12 (omega arith)

  same_cap : cap_of m ≡ cap_of b
  same_cap = num_before p2 8 (omega arith) ∙ num_before p1 8 (omega arith)

  same_used : used_of m ≡ used_of b
  same_used = num_before p2 16 (omega arith) ∙ num_before p1 16 (omega arith)

  same_end : end_of m ≡ end_of b
  same_end = num_before p2 20 (omega arith) ∙ num_before p1 20 (omega arith)

  rows_same : rows_of m ≡ rows_of b
  rows_same =
      ap (λ (x : ℕ). tabulate x (row_at m)) same_count
      ∙ tabulate_same (count_of b) (row_at b) (row_at m) (λ i h. ⊎_elim (λ e. rw e row_here) (λ ne. row_other i h ne) (same_or_other i r))

  -- the moved place meets no other
  apart_here : (i : ℕ) → i < count_of b → (i ≡ r → ⊥) → (off_of (slot_of m i) + size_of (slot_of m i) ≤ off_of (slot_of m r)) ⊎ (off_of (slot_of m r) + size_of (slot_of m r) ≤ off_of (slot_of m i))
  apart_here i h ne = rw (slot_other i h ne) (⊎_elim (λ z. inl (omega (arith, place_here))) (λ z. inr (omega (arith, place_here, size_here))) (clear i h ne))

  all_apart : (i j : ℕ) → i < j → j < count_of m → Apart (slot_of m i) (slot_of m j)
  all_apart i j h q =
      let qj : j < count_of b = omega (arith, same_count) in
      let qi : i < count_of b = omega arith in
      ⊎_elim
      (λ e. let w = apart_here j qj (λ z. omega arith) in rw e (⊎_elim (λ z. inr z) (λ z. inl z) w))
      (λ ni. ⊎_elim (λ e. rw e (apart_here i qi ni))
      (λ nj. rw (slot_other i qi ni, slot_other j qj nj) (so.apart i j h qj)) (same_or_other j r)) (same_or_other i r)

  kind : (part 0 7 m ≡ part 0 7 b) × (format_of m ≡ format_of b)
  kind = kind_same b m (omega arith) (omega arith) (before p2 0 8 (omega arith) ∙ before p1 0 8 (omega arith))

  pub moved : Moved b m r c
  moved = record {
    sound = record {
      marked = kind.0 ∙ so.marked;
      shape = record {
        few = omega (arith, same_count, so.shape.few);
        room = omega (arith, same_cap, so.shape.room);
        small = omega (arith, same_cap, so.shape.small);
        used = omega (arith, same_cap, same_used, so.shape.used);
        gaps = omega (arith, same_end, same_used, so.shape.gaps);
        within = omega (arith, same_end, so.shape.within);
      };
      filled = λ i h. let q : i < count_of b = omega (arith, same_count) in
          ⊎_elim (λ e. rw e (omega (arith, size_here, so.filled r hr))) (λ ne. rw (slot_other i q ne) (so.filled i q)) (same_or_other i r);
      inside = λ i h. let q : i < count_of b = omega (arith, same_count) in
          ⊎_elim (λ e. rw e (omega (arith, place_here, size_here, same_end, so.inside r hr))) (λ ne. rw (slot_other i q ne) (omega (arith, same_end, so.inside i q))) (same_or_other i r);
      apart = all_apart;
      exact = ap total rows_same ∙ so.exact ∙ sym same_used;
    };
    rows = rows_same;
    count = same_count;
    cap = same_cap;
    format = kind.1;
    used = same_used;
    end = same_end;
    place = place_here;
    size = size_here;
    others = slot_other;
  }
