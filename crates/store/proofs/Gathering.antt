-- The rows' bytes gathered at the heap's start, one row at a time.
-- Assumes nothing.
use mathlib.Core.Path.{◌≡◌, refl, sym, ap, ◌∙◌}
use mathlib.Core.Bool.{cond}
use mathlib.Core.Logic.{◌⊎◌, inl, inr, ⊎_elim}
use Prim.Native.Nat.{ℕ, ◌+◌, ◌≤◌, ◌<◌, ◌^◌}
use mathlib.Core.List.{List}
use native.Mathlib.Omega.{arith}
use lib.Dec.{leb}
use lib.ListN.{length}
use borrow.Author.Tests.{le-leb, lt-leb}
use Rattle.base.specs.Buffer.{part, splice}
use Rattle.store.specs.Buffer.{le4}
use Rattle.store.specs.Layout.{heap_start, heap_size, format_of, cap_of, count_of, used_of, end_of, slot_at, slot_of, off_of, size_of}
use Rattle.store.specs.Rows.{row_at, rows_of, row_size, tabulate, total}
use Rattle.store.specs.Packages.{Sound, Gathered}
use Rattle.store.specs.Places.{Lowest, AllBelow, Settled, Placed}
use Rattle.base.proofs.Parts.{length_part}
use Rattle.store.proofs.Numbers.{num4_le4, num_within, num_before}
use Rattle.base.proofs.Writes.{Write, write, before, after}
use Rattle.store.proofs.Joined.{le4_write}
use Rattle.store.proofs.Headers.{kind_same}
use Rattle.store.proofs.RowPlaces.{three, row_same, row_size_lem}
use Rattle.store.proofs.Tabulated.{tabulate_same}
use Rattle.store.proofs.Sums.{sum, sum_zero, sum_same, sum_raise, total_sum}
use Rattle.store.proofs.Moving.{Moved, moved, same_or_other}

-- the bytes of row i, if it lies below c
unfoldable pub lying : List ℕ → ℕ → ℕ → ℕ
lying b c i = cond (leb (off_of (slot_of b i) + size_of (slot_of b i)) c) (size_of (slot_of b i)) 0

module _ (b : List ℕ) (c i : ℕ) where
  lying_below : off_of (slot_of b i) + size_of (slot_of b i) ≤ c → lying b c i ≡ size_of (slot_of b i)
  unfolding lying
  lying_below h = rw (le-leb (off_of (slot_of b i) + size_of (slot_of b i)) c h)

  lying_above : c < off_of (slot_of b i) + size_of (slot_of b i) → lying b c i ≡ 0
  unfolding lying
  lying_above h = rw (lt-leb (off_of (slot_of b i) + size_of (slot_of b i)) c h)

lying_same : (b m : List ℕ) (c i : ℕ) → slot_of m i ≡ slot_of b i → lying m c i ≡ lying b c i
unfolding lying
lying_same b m c i e = rw e

-- m is b with the rows below c gathered: no row lies across c, and the rows below it fill it
pub record Gathering (b m : List ℕ) (c : ℕ) : Type 0 where
  pub sound : Sound m
  pub rows : rows_of m ≡ rows_of b
  pub count : count_of m ≡ count_of b
  pub cap : cap_of m ≡ cap_of b
  pub end : end_of m ≡ end_of b
  pub format : format_of m ≡ format_of b
  pub split : (i : ℕ) → i < count_of m → (off_of (slot_of m i) + size_of (slot_of m i) ≤ c) ⊎ (c ≤ off_of (slot_of m i))
  pub filled : c ≡ sum (count_of m) (lying m c)

-- at first none is below 0
pub gather_none : (b : List ℕ) → Sound b → Gathering b b 0
gather_none b so = record {
  sound = so;
  rows = refl;
  count = refl;
  cap = refl;
  end = refl;
  format = refl;
  split = λ i h. inr (omega arith);
  filled = sym (sum_zero (count_of b) (lying b 0) (λ i h. lying_above b 0 i (omega (arith, so.filled i h))));
}

-- the lowest row above c is moved down to it
module _ (b l m : List ℕ) (n c e r k : ℕ) (g : Gathering b l c) (en : n ≡ count_of b) (ee : e ≡ end_of b) (he : e < 2 ^ 32) (hc : c ≤ e)
    (lo : Lowest l n c r) (s : Settled l m r c e k) where
  low : r < count_of l
  low = omega (arith, lo.within, g.count)

  above : c ≤ off_of (slot_of l r)
  above = lo.above

  fits : off_of (slot_of l r) + size_of (slot_of l r) ≤ e
  fits = omega (arith, g.sound.inside r low, g.end)

  size : k ≡ size_of (slot_of l r)
  size = (s.moved fits).0

  -- any other row lies below c, or past the one that is moved
  clear : (i : ℕ) → i < count_of l → (i ≡ r → ⊥) → (off_of (slot_of l i) + size_of (slot_of l i) ≤ c) ⊎ (off_of (slot_of l r) + k ≤ off_of (slot_of l i))
  clear i h ne =
      let f = g.sound.filled i h in
      ⊎_elim (λ z. inl z)
      (λ z.
      let v = lo.least i (omega (arith, g.count)) z in
      ⊎_elim (λ q. ⊎_elim (λ a. absurd (omega arith)) (λ a. inr (omega (arith, size))) (g.sound.apart i r q low))
      (λ w. ⊎_elim (λ a. absurd (ne a)) (λ q. ⊎_elim (λ a. inr (omega (arith, size))) (λ a. absurd (omega arith)) (g.sound.apart r i q h)) w) (three i r))
      (g.split i h)

  pub move : Moved l m r c
  move =
      let o : ℕ = off_of (slot_of l r) in
      let b1 : List ℕ = splice l (heap_start + c) (part (heap_start + o) k l) in
      let t : heap_start + o + k ≤ length l = omega (arith, size, fits, g.end, g.sound.shape.within) in
      let p1 = write l b1 (heap_start + c) k (part (heap_start + o) k l) refl (length_part (heap_start + o) k l t) (omega (arith, above)) in
      let p2 = le4_write b1 m (slot_at r) c (s.moved fits).1 (omega (arith, low, g.sound.shape.few)) in
      moved l b1 m r c o k g.sound low refl (sym size) above (omega arith) clear p1 p2

  others : (i : ℕ) → i < count_of l → (i ≡ r → ⊥) → lying m (c + k) i ≡ lying l c i
  others i h ne =
      let f = g.sound.filled i h in
      let lo : off_of (slot_of l i) + size_of (slot_of l i) ≤ c → lying l (c + k) i ≡ lying l c i = λ z. lying_below l (c + k) i (omega arith) ∙ sym (lying_below l c i z) in
      let hi : off_of (slot_of l r) + k ≤ off_of (slot_of l i) → lying l (c + k) i ≡ lying l c i =
      λ z. lying_above l (c + k) i (omega (arith, above)) ∙ sym (lying_above l c i (omega (arith, above))) in
      lying_same l m (c + k) i (move.others i h ne) ∙ ⊎_elim lo hi (clear i h ne)

  here : lying m (c + k) r ≡ lying l c r + k
  here =
      let x = lying_below m (c + k) r (omega (arith, move.place, move.size, size)) in
      let y = lying_above l c r (omega (arith, above, g.sound.filled r low)) in
      omega (arith, move.size, size)

  pub gather_more : Gathering b m (c + k)
  gather_more =
      let mc = move.count in
      let sr = sum_raise r (count_of l) k (lying l c) (lying m (c + k)) low others here in
      record {
        sound = move.sound;
        rows = move.rows ∙ g.rows;
        count = move.count ∙ g.count;
        cap = move.cap ∙ g.cap;
        end = move.end ∙ g.end;
        format = move.format ∙ g.format;
        split = λ i h. let q : i < count_of l = omega arith in
            ⊎_elim (λ a. rw a (inl (omega (arith, move.place, move.size, size))))
            (λ ne. rw (move.others i q ne) (⊎_elim (λ z. inl (omega arith)) (λ z. inr (omega (arith, above))) (clear i q ne))) (same_or_other i r);
        filled = rw mc (omega (arith, g.filled));
      }

-- no row is above c: the end is set to it
module _ (b l m : List ℕ) (n c e : ℕ) (g : Gathering b l c) (en : n ≡ count_of b) (ee : e ≡ end_of b) (he : e < 2 ^ 32) (hc : c ≤ e)
    (lo : AllBelow l n c) (em : m ≡ splice l 20 (le4 c)) where
  all_below : (i : ℕ) → i < count_of l → off_of (slot_of l i) + size_of (slot_of l i) ≤ c
  all_below i h = ⊎_elim (λ z. z) (λ z. absurd (omega (arith, lo.below i (omega (arith, g.count))))) (g.split i h)

  all_used : c ≡ used_of l
  all_used =
      g.filled
      ∙ sum_same (count_of l) (λ i. row_size (row_at l i)) (lying l c)
      (λ i h. lying_below l c i (all_below i h) ∙ sym (row_size_lem l (slot_of l i) (omega (arith, g.sound.inside i h, g.sound.shape.within))))
      ∙ sym (total_sum (count_of l) (row_at l)) ∙ g.sound.exact

  p : Write l m 20 4 (le4 c)
  p = le4_write l m 20 c em (omega (arith, g.sound.shape.room))

  new_end : end_of m ≡ c
  new_end = num_within p 20 0 (omega arith) (omega arith) ∙ num4_le4 c (omega arith)

  count_kept : count_of m ≡ count_of l
  count_kept = num_before p 12 (omega arith)

  used_kept : used_of m ≡ used_of l
  used_kept = num_before p 16 (omega arith)

  cap_kept : cap_of m ≡ cap_of l
  cap_kept = num_before p 8 (omega arith)

  slots_kept : (i : ℕ) → i < count_of l → slot_of m i ≡ slot_of l i
  slots_kept i h = after p (slot_at i) 24 (omega arith) (omega (arith, g.sound.shape.few, g.sound.shape.room))

  rows_kept : rows_of m ≡ rows_of l
  rows_kept =
      ap (λ (x : ℕ). tabulate x (row_at m)) count_kept
      ∙ tabulate_same (count_of l) (row_at l) (row_at m)
      (λ i h. row_same l m (slot_of l i) (slot_of m i) (slots_kept i h)
      (λ x y v w. after p x y (omega arith) (omega (arith, g.sound.inside i h, g.sound.shape.within))))

  kind : (part 0 7 m ≡ part 0 7 l) × (format_of m ≡ format_of l)
  kind = kind_same l m (omega (arith, g.sound.shape.room)) (omega (arith, g.sound.shape.room, p.len)) (before p 0 8 (omega arith))

  pub gather_all : Gathered b m
  gather_all =
      let so = g.sound in
      record {
        sound = record {
          marked = kind.0 ∙ so.marked;
          shape = record {
            few = omega (arith, count_kept, so.shape.few);
            room = omega (arith, cap_kept, so.shape.room, p.len);
            small = omega (arith, cap_kept, so.shape.small);
            used = omega (arith, cap_kept, used_kept, so.shape.used);
            gaps = omega (arith, new_end, used_kept, all_used);
            within = omega (arith, new_end, all_used, so.shape.used, so.shape.room, p.len);
          };
          filled = λ i h. let q : i < count_of l = omega (arith, count_kept) in rw (slots_kept i q) (so.filled i q);
          inside = λ i h. let q : i < count_of l = omega (arith, count_kept) in rw (slots_kept i q) (omega (arith, all_below i q, new_end));
          apart = λ i j h q.
              let qj : j < count_of l = omega (arith, count_kept) in
              rw (slots_kept i (omega arith), slots_kept j qj) (so.apart i j h qj);
          exact = ap total rows_kept ∙ so.exact ∙ sym used_kept;
        };
        rows = rows_kept ∙ g.rows;
        cap = cap_kept ∙ g.cap;
        format = kind.1 ∙ g.format;
        end = omega (arith, new_end, all_used, used_kept);
      }

-- the free place: at the end as it is, or once the rows are gathered
pub place_here : (b : List ℕ) (k e h : ℕ) → e ≡ end_of b → h ≡ heap_size b → e + k ≤ h → Sound b → Placed b b k e
place_here b k e h ee eh q so = record { sound = so; rows = refl; cap = refl; format = refl; end = ee; close = inl (omega arith) }
