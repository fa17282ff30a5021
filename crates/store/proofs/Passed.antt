-- Bytes of a row passed on to the row that lies last.
-- Assumes nothing.
use mathlib.Core.Path.{◌≡◌, refl, sym, ap, ap₂, ◌∙◌}
use mathlib.Core.Logic.{◌⊎◌, inl, inr, ⊎_elim}
use Prim.Native.Nat.{ℕ, ◌+◌, ◌-◌, ◌≤◌, ◌<◌}
use mathlib.Core.List.{List, ◌++◌}
use native.Mathlib.Omega.{arith}
use lib.ListN.{length, get_or, take, drop}
use Rattle.base.specs.Buffer.{part}
use Rattle.store.specs.Buffer.{num4}
use Rattle.store.specs.Layout.{heap_start, format_of, cap_of, count_of, used_of, end_of, slot_of, off_of, size_of}
use Rattle.store.specs.Rows.{Row, no_row, row_of, row_at, rows_of, row_size, tabulate, replace_at, with_bytes, total}
use Rattle.store.specs.Packages.{Sound, Apart, Became, Passing, passed}
use Rattle.store.specs.Places.{Brought, PassedBack}
use Rattle.base.proofs.Parts.{part_none, part_add, take_part, drop_part}
use Rattle.store.proofs.Headers.{rows_count, row_get_or, same_rows_count, same_rows_row}
use Rattle.store.proofs.RowPlaces.{row_same, length_f2, row_size_lem, row_is}
use Rattle.store.proofs.Removing.{size_used}
use Rattle.store.proofs.SlotWrites.{slot_kind}
use Rattle.store.proofs.Moving.{same_or_other}
use Rattle.store.proofs.Tabulated.{tabulate_replace_two, total_replace, length_replace, get_or_replace}
use Rattle.store.proofs.PassedSlots.{Pass, long, few_j, few_i, q12, long2, len3, is_clear, clear, past, below_i, low_j, heap_kept, head_kept, slot_other, off_j, n0_j, n1_j, n2_j, n3_j, tag_j, off_i, n0_i, n1_i, n2_i, n3_i, tag_i, none_from, none_to, inside_from, inside_to, name_from, enough}
use Rattle.store.proofs.SentRows.{sent_cap, sent_count, sent_used, sent_kind, sent_within, sent_size, clear_row, clear_inside, clear_apart}

module _ {l m1 m2 m : List ℕ} {n e x k j i from to d : ℕ} (W : Pass l m1 m2 m n e x k j i from to d) where
  -- THE ROWS
  row_other : (h : ℕ) → h < n → (h ≡ i → ⊥) → (h ≡ j → ⊥) → row_at m h ≡ row_at l h
  row_other h q ni nj =
      let c = clear_inside l m1 n e x k 0 d W.so W.sent W.en W.ee W.hx W.len h q ((is_clear W) h q nj) in
      row_same m1 m (slot_of m1 h) (slot_of m h) ((slot_other W) h q ni nj) (λ y z lo hi. (heap_kept W) y z (omega arith) (omega (arith, W.so.shape.within)))
      ∙ clear_row l m1 n e x k 0 d W.so W.sent W.en W.ee W.hx W.len h q ((is_clear W) h q nj)

  below : (y c : ℕ) → heap_start ≤ y → y + c ≤ heap_start + x → part y c m ≡ part y c l
  below y c h q =
      let f : heap_start + (y - heap_start) ≡ y = omega arith in
      heap_kept W y c h (omega (arith, W.so.shape.within)) ∙ ap (λ (z : ℕ). part z c m1) (sym f) ∙ W.sent.below (y - heap_start) c (omega arith) ∙ ap (λ (z : ℕ). part z c l) f

  above : (y z c : ℕ) → y + d ≡ z → heap_start + x + k ≤ z → z + c ≤ heap_start + e → part y c m ≡ part z c l
  above y z c f h q =
      let g : heap_start + (z - heap_start) ≡ z = omega arith in
      let t : y ≡ heap_start + (z - heap_start - d) = omega (arith, W.sent.few) in
      heap_kept W y c (omega (arith, W.sent.few)) (omega (arith, W.so.shape.within)) ∙ ap (λ (v : ℕ). part v c m1) t ∙ W.sent.above (z - heap_start) c (omega arith) (omega arith)
      ∙ ap (λ (v : ℕ). part v c l) g

  -- where the bytes of row j's field 2 begin, the field, and what it keeps
  bytes_at : ℕ
  bytes_at = heap_start + off_of (slot_of l j) + num4 (slot_of l j) 4 + num4 (slot_of l j) 8

  bytes_split : (take (length (row_at l j).f2 - k) (row_at l j).f2 ≡ part bytes_at (from - k) l) × (drop (length (row_at l j).f2 - k) (row_at l j).f2 ≡ part (heap_start + x) k l)
  unfolding row_of bytes_at
  bytes_split =
      let f : length (row_at l j).f2 - k ≡ from - k = omega (arith, length_f2 l (slot_of l j) (inside_from W)) in
      let g : num4 (slot_of l j) 12 ≡ from - k + k = omega (arith, enough W) in
      let h : bytes_at + (from - k) ≡ heap_start + x = omega (arith, enough W, none_from W) in
      let t : bytes_at + (from - k) ≤ length l = omega (arith, inside_from W) in (
        ap₂ (λ (u v : ℕ). take u (part bytes_at v l)) f g ∙ take_part bytes_at (from - k) k l t,
        ap₂ (λ (u v : ℕ). drop u (part bytes_at v l)) f g ∙ drop_part bytes_at (from - k) k l t ∙ ap (λ (v : ℕ). part v k l) h,
      )

  row_j : row_at m j ≡ with_bytes (row_at l j) (take (length (row_at l j).f2 - k) (row_at l j).f2)
  unfolding row_of bytes_at
  row_j =
      let t : num4 (slot_of l j) 12 ≡ from - k + k = omega (arith, enough W) in
      row_is m (slot_of m j) (with_bytes (row_at l j) (take (length (row_at l j).f2 - k) (row_at l j).f2)) (tag_j W)
      (rw (off_j W, n0_j W) (below _ _ (omega arith) (omega (arith, none_from W))))
      (rw (off_j W, n0_j W, n1_j W) (below _ _ (omega arith) (omega (arith, none_from W))))
      (rw (off_j W, n0_j W, n1_j W, n2_j W) (below _ _ (omega arith) (omega (arith, none_from W))) ∙ sym bytes_split.0)
      (part_none _ _ m ((n3_j W) ∙ (none_from W)) ∙ sym W.pa.last.0)

  row_i : row_at m i ≡ with_bytes (row_at l i) ((row_at l i).f2 ++ drop (length (row_at l j).f2 - k) (row_at l j).f2)
  unfolding row_of
  row_i =
      let o : ℕ = off_of (slot_of m i) in
      let a : ℕ = num4 (slot_of l i) 4 in
      let b : ℕ = num4 (slot_of l i) 8 in
      let f : heap_start + o + a + b + to ≡ heap_start + (e - d) = omega (arith, off_i W, none_to W) in
      let t : heap_start + (e - d) + k ≤ length l = omega (arith, W.sent.end, sent_within l m1 n e x k 0 d W.so W.sent W.en W.ee W.hx W.len) in
      let g : part (heap_start + o + a + b + to) k m ≡ drop (length (row_at l j).f2 - k) (row_at l j).f2 =
      ap (λ (v : ℕ). part v k m) f ∙ heap_kept W (heap_start + (e - d)) k (omega arith) t ∙ W.sent.sent ∙ sym bytes_split.1 in
      let y : part (heap_start + o + a + b) to m ≡ (row_at l i).f2 = rw W.et (above _ _ _ (omega (arith, off_i W)) (omega (arith, past W)) (omega arith)) in
      row_is m (slot_of m i) (with_bytes (row_at l i) ((row_at l i).f2 ++ drop (length (row_at l j).f2 - k) (row_at l j).f2)) (tag_i W)
      (rw (n0_i W) (above _ _ _ (omega (arith, off_i W)) (omega (arith, past W)) (omega arith)))
      (rw (n0_i W, n1_i W) (above _ _ _ (omega (arith, off_i W)) (omega (arith, past W)) (omega arith)))
      (rw (n0_i W, n1_i W, n2_i W) (part_add (heap_start + o + a + b) to k m ∙ ap₂ ◌++◌ y g))
      (part_none _ _ m ((n3_i W) ∙ (none_to W)) ∙ sym W.pa.last.1)

  same_count : count_of m ≡ count_of l
  same_count = head_kept W 12 (omega arith) ∙ sent_count l m1 n e x k 0 d W.so W.sent W.en W.ee W.hx W.len

  same_cap : cap_of m ≡ cap_of l
  same_cap = head_kept W 8 (omega arith) ∙ sent_cap l m1 n e x k 0 d W.so W.sent W.en W.ee W.hx W.len

  same_used : used_of m ≡ used_of l
  same_used = head_kept W 16 (omega arith) ∙ sent_used l m1 n e x k 0 d W.so W.sent W.en W.ee W.hx W.len

  new_end : end_of m + d ≡ e + k
  new_end = ap (λ (v : ℕ). v + d) ((head_kept W) 20 (omega arith)) ∙ W.sent.end

  rows_passed : rows_of m ≡ passed l j i k
  rows_passed =
      ap (λ (v : ℕ). tabulate v (row_at m)) same_count
      ∙ tabulate_replace_two i j (count_of l) (row_at l) (row_at m) _ _ W.pa.to W.pa.from W.pa.other row_i row_j (λ h q ni nj. row_other h (omega arith) ni nj)

  -- THE PLACES
  size_j : size_of (slot_of m j) + k ≡ size_of (slot_of l j)
  size_j = omega (arith, n0_j W, n1_j W, n2_j W, n3_j W, enough W)

  size_i : size_of (slot_of m i) ≡ size_of (slot_of l i) + k
  size_i = omega (arith, n0_i W, n1_i W, n2_i W, n3_i W)

  size_other : (h : ℕ) → h < n → (h ≡ i → ⊥) → (h ≡ j → ⊥) → size_of (slot_of m h) ≡ size_of (slot_of l h)
  size_other h q ni nj = ap (λ (z : List ℕ). size_of z) ((slot_other W) h q ni nj) ∙ sent_size l m1 n e x k 0 d W.so W.sent W.en W.ee W.hx W.len h q

  -- every other row ends before row i's place
  other_inside : (h : ℕ) → h < n → (h ≡ i → ⊥) → (h ≡ j → ⊥) → off_of (slot_of m h) + size_of (slot_of m h) ≤ off_of (slot_of m i)
  other_inside h q ni nj =
      let z = size_other h q ni nj in
      let y : off_of (slot_of m h) ≡ off_of (slot_of m1 h) = ap (λ (v : List ℕ). off_of v) ((slot_other W) h q ni nj) in
      ⊎_elim (λ v. let f = (W.sent.slots h q).low (omega (arith, low_j W, W.so.filled h (omega arith))) in omega (arith, off_i W, past W, W.sent.few, low_j W))
      (λ v. let f = (W.sent.slots h q).high v in omega (arith, off_i W, (below_i W) h q ni)) ((clear W) h q nj)

  j_inside : off_of (slot_of m j) + size_of (slot_of m j) ≤ off_of (slot_of m i)
  j_inside = omega (arith, off_j W, size_j, off_i W, past W, W.sent.few)

  -- and apart from row j's
  other_apart : (h : ℕ) → h < n → (h ≡ i → ⊥) → (h ≡ j → ⊥)
      → (off_of (slot_of m h) + size_of (slot_of m h) ≤ off_of (slot_of m j)) ⊎ (off_of (slot_of m j) + size_of (slot_of m j) ≤ off_of (slot_of m h))
  other_apart h q ni nj =
      let z = size_other h q ni nj in
      let y : off_of (slot_of m h) ≡ off_of (slot_of m1 h) = ap (λ (v : List ℕ). off_of v) ((slot_other W) h q ni nj) in
      ⊎_elim (λ v. let f = (W.sent.slots h q).low (omega (arith, low_j W, W.so.filled h (omega arith))) in inl (omega (arith, off_j W)))
      (λ v. let f = (W.sent.slots h q).high v in inr (omega (arith, off_j W, size_j, W.sent.few))) ((clear W) h q nj)

  -- a row's place is before row i's, unless it is row i
  inside_or_i : (h : ℕ) → h < n → (h ≡ i) ⊎ (off_of (slot_of m h) + size_of (slot_of m h) ≤ off_of (slot_of m i))
  inside_or_i h q = ⊎_elim (λ z. inl z) (λ ni. ⊎_elim (λ z. inr (rw z j_inside)) (λ nj. inr (other_inside h q ni nj)) (same_or_other h j)) (same_or_other h i)

  all_apart : (g h : ℕ) → g < h → h < n → Apart (slot_of m g) (slot_of m h)
  all_apart g h lt q =
      let gn : g < n = omega arith in
      ⊎_elim
      (λ z. rw z (⊎_elim (λ y. absurd (omega arith)) (λ y. inr y) (inside_or_i h q)))
      (λ ng. ⊎_elim
      (λ z. rw z (⊎_elim (λ y. absurd (ng y)) (λ y. inl y) (inside_or_i g gn)))
      (λ nh. ⊎_elim
      (λ z. rw z (⊎_elim (λ v. inr v) (λ v. inl v) (other_apart h q nh (λ y. omega arith))))
      (λ gj. ⊎_elim
      (λ z. rw z (other_apart g gn ng gj))
      (λ hj. rw ((slot_other W) g gn ng gj, (slot_other W) h q nh hj)
      (clear_apart l m1 n e x k 0 d W.so W.sent W.en W.ee W.hx W.len g h gn q ((is_clear W) g gn gj) ((is_clear W) h q hj) (W.so.apart g h lt (omega arith))))
      (same_or_other h j)) (same_or_other g j)) (same_or_other h i)) (same_or_other g i)

  end_i : off_of (slot_of m i) + size_of (slot_of m i) ≡ end_of m
  end_i = omega (arith, off_i W, size_i, new_end)

  filled_here : (h : ℕ) → h < n → 0 < size_of (slot_of m h)
  filled_here h q =
      ⊎_elim (λ z. rw z (omega (arith, size_i, W.so.filled i W.pa.to)))
      (λ ni. ⊎_elim (λ z. rw z (omega (arith, n0_j W, name_from W))) (λ nj. omega (arith, size_other h q ni nj, W.so.filled h (omega arith))) (same_or_other h j)) (same_or_other h i)

  exact_here : total (rows_of m) ≡ used_of m
  exact_here =
      let w = sent_within l m1 n e x k 0 d W.so W.sent W.en W.ee W.hx W.len in
      let zj : row_size (row_at m j) ≡ size_of (slot_of m j) = row_size_lem m (slot_of m j) (omega (arith, j_inside, end_i, new_end, W.sent.end, len3 W)) in
      let zi : row_size (row_at m i) ≡ size_of (slot_of m i) = row_size_lem m (slot_of m i) (omega (arith, end_i, new_end, W.sent.end, len3 W)) in
      let yj : Row = with_bytes (row_at l j) (take (length (row_at l j).f2 - k) (row_at l j).f2) in
      let yi : Row = with_bytes (row_at l i) ((row_at l i).f2 ++ drop (length (row_at l j).f2 - k) (row_at l j).f2) in
      let fj : row_size yj ≡ row_size (row_at m j) = ap row_size (sym row_j) in
      let fi : row_size yi ≡ row_size (row_at m i) = ap row_size (sym row_i) in
      let cj : j < length (rows_of l) = omega (arith, rows_count l, W.pa.from) in
      let ci : i < length (replace_at j yj (rows_of l)) = omega (arith, length_replace j yj (rows_of l) cj, rows_count l, W.pa.to) in
      let gj : row_size (get_or (rows_of l) j no_row) ≡ size_of (slot_of l j) = ap row_size (row_get_or l j W.pa.from) ∙ row_size_lem l (slot_of l j) (inside_from W) in
      let gi : row_size (get_or (replace_at j yj (rows_of l)) i no_row) ≡ size_of (slot_of l i) =
      ap row_size (get_or_replace j i yj (rows_of l) cj W.pa.other ∙ row_get_or l i W.pa.to) ∙ row_size_lem l (slot_of l i) (inside_to W) in
      let tj = total_replace j yj (rows_of l) cj in
      let ti = total_replace i yi (replace_at j yj (rows_of l)) ci in
      ap total rows_passed ∙ omega (arith, size_j, size_i, W.so.exact, same_used)

  pub passed_on : Became l m (passed l j i k)
  passed_on = record {
    sound = record {
      marked = kind.0 ∙ W.so.marked;
      shape = record {
        few = omega (arith, same_count, W.so.shape.few);
        room = omega (arith, same_cap, W.so.shape.room, len3 W);
        small = omega (arith, same_cap, W.so.shape.small);
        used = omega (arith, same_cap, same_used, W.so.shape.used);
        gaps = omega (arith, new_end, same_used, W.so.shape.gaps, W.sent.few);
        within = omega (arith, new_end, W.sent.end, len3 W, sent_within l m1 n e x k 0 d W.so W.sent W.en W.ee W.hx W.len);
      };
      filled = λ h q. filled_here h (omega (arith, same_count));
      inside = λ h q. ⊎_elim (λ z. rw z (omega (arith, end_i))) (λ z. omega (arith, end_i)) (inside_or_i h (omega (arith, same_count)));
      apart = λ g h lt q. all_apart g h lt (omega (arith, same_count));
      exact = exact_here;
    };
    rows = rows_passed;
    cap = same_cap;
    format = kind.1;
  }
    where
      kind : (part 0 7 m ≡ part 0 7 l) × (format_of m ≡ format_of l)
      kind =
          let a = slot_kind m2 m i 12 (to + k) (few_i W) (q12 W) (long2 W) W.w2 in
          let b = slot_kind m1 m2 j 12 (from - k) (few_j W) (q12 W) (long W) W.w1 in
          let c = sent_kind l m1 n e x k 0 d W.so W.sent W.en W.ee W.hx W.len in
          (a.0 ∙ b.0 ∙ c.0, a.1 ∙ b.1 ∙ c.1)

-- row i was brought behind the others before
pub passed_brought : (b l m : List ℕ) (n u j i k : ℕ) → n ≡ count_of b → u ≡ used_of b → Brought b l i k → PassedBack l m n u j i k → Sound b → Passing b j i k → Became b m (passed b j i k)
passed_brought b l m n u j i k en eu br pb so pa =
    let t = (br.is so).0.became in
    let count = same_rows_count b l t.rows in
    let ej : row_at l j ≡ row_at b j = same_rows_row b l t.rows j pa.from in
    let ei : row_at l i ≡ row_at b i = same_rows_row b l t.rows i pa.to in
    let pl : Passing l j i k = record {
      from = omega (arith, pa.from);
      to = omega (arith, pa.to);
      other = pa.other;
      last = (rw ej pa.last.0, rw ei pa.last.1);
      kept = rw ej pa.kept;
      enough = rw ej pa.enough;
    } in
    let used : used_of l ≡ used_of b = sym t.sound.exact ∙ ap total t.rows ∙ so.exact in
    let w = pb.is t.sound (en ∙ sym count) (eu ∙ sym used) (br.is so).0.end (br.is so).1 pl in
    record { sound = w.sound; rows = w.rows ∙ rw (ej, ei, t.rows) refl; cap = w.cap ∙ t.cap; format = w.format ∙ t.format }

-- no more bytes are passed on than are in use
pub pass_few : (b : List ℕ) (u j i k : ℕ) → u ≡ used_of b → u < k → Sound b → Passing b j i k → ⊥
pass_few b u j i k eu q so pa =
    let inside = so.inside j pa.from in
    omega (arith, pa.enough, length_f2 b (slot_of b j) (omega (arith, so.shape.within)), size_used b j so pa.from)
