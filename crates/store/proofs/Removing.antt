-- What two writes make of a package: a row is taken out.
-- Assumes nothing.
use mathlib.Core.Path.{◌≡◌, refl, sym, ap, ◌∙◌}
use mathlib.Core.Logic.{◌⊎◌, inl, inr, ⊎_elim}
use Prim.Native.Nat.{ℕ, suc, ◌+◌, ◌-◌, ◌*◌, ◌≤◌, ◌<◌, ◌^◌}
use mathlib.Core.List.{List, ◌++◌}
use native.Mathlib.Omega.{arith}
use lib.ListN.{length, get_or}
use Rattle.base.specs.Buffer.{part, splice}
use Rattle.store.specs.Buffer.{le4}
use Rattle.store.specs.Layout.{heap_start, format_of, cap_of, count_of, used_of, end_of, slot_at, slot_of, off_of, size_of}
use Rattle.store.specs.Rows.{Row, no_row, row_at, rows_of, row_size, tabulate, remove_at, replace_at, total}
use Rattle.store.specs.Packages.{Sound, Removed}
use Rattle.store.specs.Places.{EndWithout}
use Rattle.base.proofs.Parts.{length_part}
use Rattle.base.proofs.Writes.{Write, write, before, after, within, part_part}
use Rattle.store.proofs.Numbers.{num_within, num_before}
use Rattle.store.proofs.Headers.{counts_0, counts_4, counts_8, counts_size, kind_same, rows_count, row_get_or}
use Rattle.store.proofs.RowPlaces.{three, row_same, row_size_lem, row_sized}
use Rattle.store.proofs.Tabulated.{tabulate_remove, total_remove, total_replace, length_replace, get_or_replace}

-- slot i of m is slot j of b, which was before the slot r or past it
record Kept (b m : List ℕ) (n r i : ℕ) : Type 0 where
  j : ℕ
  same : slot_of m i ≡ slot_of b j
  below : j < n
  shift : ((i ≡ j) × (j < r)) ⊎ ((j ≡ suc i) × (r ≤ i))

kept_lt : {b m : List ℕ} {n r i k : ℕ} (x : Kept b m n r i) (y : Kept b m n r k) → i < k → x.j < y.j
kept_lt {b} {m} {n} {r} {i} {k} x y h =
    ⊎_elim (λ v. ⊎_elim (λ w. omega arith) (λ w. omega arith) y.shift) (λ v. ⊎_elim (λ w. omega arith) (λ w. omega arith) y.shift) x.shift

-- the rows use at least the bytes of one
pub size_used : (b : List ℕ) (r : ℕ) → Sound b → r < count_of b → total (remove_at r (rows_of b)) + size_of (slot_of b r) ≡ used_of b
size_used b r so h =
    let z = row_size_lem b (slot_of b r) (omega (arith, so.inside r h, so.shape.within)) in
    let e = total_remove r (rows_of b) (rw rows_count h) in
    let f : size_of (slot_of b r) ≡ row_size (get_or (rows_of b) r no_row) = sym z ∙ ap row_size (sym (row_get_or b r h)) in
    omega (arith, so.exact)

-- two rows have no more bytes than are in use
pub two_used : (b : List ℕ) (i j : ℕ) → Sound b → i < count_of b → j < count_of b → (i ≡ j → ⊥) → size_of (slot_of b i) + size_of (slot_of b j) ≤ used_of b
two_used b i j so hi hj ne =
    let rows = rows_count b in
    let none : List Row = replace_at j no_row (rows_of b) in
    let hj2 : j < length (rows_of b) = omega arith in
    let len = length_replace j no_row (rows_of b) hj2 in
    let ei : row_size (get_or none i no_row) ≡ size_of (slot_of b i) = ap row_size (get_or_replace j i no_row (rows_of b) hj2 ne ∙ row_get_or b i hi) ∙ row_sized b so i hi in
    let ej : row_size (get_or (rows_of b) j no_row) ≡ size_of (slot_of b j) = ap row_size (row_get_or b j hj) ∙ row_sized b so j hj in
    omega (arith, total_replace j no_row (rows_of b) hj2, total_remove i none (omega arith), so.exact)

-- the slots moved down, the counts; k bytes at o are given up, u were in use, x is the new end
module _ (b b1 b2 : List ℕ) (n u e o k x r : ℕ)
    (so : Sound b) (en : count_of b ≡ n) (eu : used_of b ≡ u) (ee : end_of b ≡ e) (eo : off_of (slot_of b r) ≡ o) (ek : size_of (slot_of b r) ≡ k)
    (hr : r < n) (hu : u < 2 ^ 32) (he : e < 2 ^ 32) (wo : EndWithout n e o k x)
    (p1 : Write b b1 (slot_at r) (24 * (n - (r + 1))) (part (slot_at r + 24) (24 * (n - (r + 1))) b))
    (p2 : Write b1 b2 12 12 (le4 (n - 1) ++ (le4 (u - k) ++ le4 x))) where
  rem_slot_lo : (i : ℕ) → i < r → slot_of b2 i ≡ slot_of b i
  rem_slot_lo i h = after p2 (slot_at i) 24 (omega arith) (omega arith) ∙ before p1 (slot_at i) 24 (omega arith)

  rem_slot_hi : (i : ℕ) → r ≤ i → i < n - 1 → slot_of b2 i ≡ slot_of b (suc i)
  rem_slot_hi i h q =
      let d : slot_at r + 24 + 24 * (i - r) ≡ slot_at (suc i) = omega arith in
      after p2 (slot_at i) 24 (omega arith) (omega arith)
      ∙ within p1 (slot_at i) (24 * (i - r)) 24 (omega arith) (omega arith)
      ∙ part_part (slot_at r + 24) (24 * (n - (r + 1))) (24 * (i - r)) 24 b (omega arith) (omega arith)
      ∙ ap (λ (y : ℕ). part y 24 b) d

  rem_heap : (y c : ℕ) → heap_start ≤ y → y + c ≤ length b → part y c b2 ≡ part y c b
  rem_heap y c h q = after p2 y c (omega arith) (omega arith) ∙ after p1 y c (omega arith) q

  rem_count : count_of b2 ≡ n - 1
  rem_count = num_within p2 12 0 (omega arith) (omega arith) ∙ counts_0 (n - 1) _ _ (omega arith)

  rem_used : used_of b2 ≡ u - k
  rem_used = num_within p2 16 4 (omega arith) (omega arith) ∙ counts_4 (n - 1) _ _ (omega arith)

  rem_end : end_of b2 ≡ x
  rem_end = num_within p2 20 8 (omega arith) (omega arith) ∙ counts_8 (n - 1) (u - k) _ (omega (arith, wo.low))

  rem_cap : cap_of b2 ≡ cap_of b
  rem_cap = num_before p2 8 (omega arith) ∙ num_before p1 8 (omega arith)

  rem_kept : (i : ℕ) → i < count_of b2 → Kept b b2 n r i
  rem_kept i h =
      let g : i < n - 1 = omega (arith, rem_count) in
      let hi : r ≤ i → Kept b b2 n r i = λ q. record { j = suc i; same = rem_slot_hi i q g; below = omega arith; shift = inr (refl, q) } in
      ⊎_elim (λ q. record { j = i; same = rem_slot_lo i q; below = omega arith; shift = inl (refl, q) }) (λ w. hi (⊎_elim (λ e. omega arith) (λ q. omega arith) w)) (three i r)

  -- a kept row's place does not meet the one that is given up
  rem_apart : (i : ℕ) (v : Kept b b2 n r i) → (off_of (slot_of b2 i) + size_of (slot_of b2 i) ≤ o) ⊎ (o + k ≤ off_of (slot_of b2 i))
  rem_apart i v = rw v.same (⊎_elim
      (λ w. ⊎_elim (λ a. inl (omega arith)) (λ a. inr (omega arith)) (so.apart v.j r (omega arith) (omega arith)))
      (λ w. ⊎_elim (λ a. inr (omega arith)) (λ a. inl (omega arith)) (so.apart r v.j (omega arith) (omega arith))) v.shift)

  rem_filled : (i : ℕ) → i < count_of b2 → 0 < size_of (slot_of b2 i)
  rem_filled i h = let v = rem_kept i h in rw v.same (so.filled v.j (omega arith))

  rem_inside : (i : ℕ) → i < count_of b2 → off_of (slot_of b2 i) + size_of (slot_of b2 i) ≤ end_of b2
  rem_inside i h =
      let v = rem_kept i h in
      let w : off_of (slot_of b2 i) + size_of (slot_of b2 i) ≤ e = rw v.same (omega (arith, so.inside v.j (omega arith))) in
      let f = rem_filled i h in
      ⊎_elim (λ a. omega (arith, rem_end))
      (λ a. ⊎_elim (λ c. ⊎_elim (λ d. omega (arith, rem_end)) (λ d. absurd (omega arith)) (rem_apart i v)) (λ c. absurd (omega (arith, rem_count))) a) wo.is

  rem_row : (i j : ℕ) → j < n → slot_of b2 i ≡ slot_of b j → row_at b2 i ≡ row_at b j
  rem_row i j h s =
      row_same b b2 (slot_of b j) (slot_of b2 i) s (λ y c v w. rem_heap y c (omega arith) (omega (arith, so.inside j (omega arith), so.shape.within)))

  remove_rows : rows_of b2 ≡ remove_at r (rows_of b)
  remove_rows =
      let s : suc (n - 1) ≡ count_of b = omega arith in
      ap (λ (y : ℕ). tabulate y (row_at b2)) rem_count
      ∙ tabulate_remove r (n - 1) (row_at b) (row_at b2) (omega arith)
      (λ i h. rem_row i i (omega arith) (rem_slot_lo i h)) (λ i h q. rem_row i (suc i) (omega arith) (rem_slot_hi i h q))
      ∙ ap (λ (y : ℕ). remove_at r (tabulate y (row_at b))) s

  rem_exact : total (rows_of b2) ≡ used_of b2
  rem_exact = ap total remove_rows ∙ omega (arith, size_used b r so (omega arith), rem_used)

  -- the only row's bytes are all that were in use
  rem_last : n ≡ 1 → used_of b2 ≡ 0
  unfolding total tabulate
  rem_last h =
      let z : count_of b2 ≡ 0 = omega (arith, rem_count) in
      sym rem_exact ∙ ap (λ (y : ℕ). total (tabulate y (row_at b2))) z

  rem_gaps : used_of b2 ≤ end_of b2
  rem_gaps = ⊎_elim (λ a. omega (arith, rem_end, rem_used, so.shape.gaps))
      (λ a. ⊎_elim (λ c. omega (arith, rem_end, rem_used, so.shape.gaps)) (λ c. omega (arith, rem_last c.1)) a) wo.is

  rem_kind : (part 0 7 b2 ≡ part 0 7 b) × (format_of b2 ≡ format_of b)
  rem_kind = kind_same b b2 (omega arith) (omega arith) (before p2 0 8 (omega arith) ∙ before p1 0 8 (omega arith))

  removed : Removed b b2 r
  removed = record {
    sound = record {
      marked = rem_kind.0 ∙ so.marked;
      shape = record {
        few = omega (arith, rem_count, so.shape.few);
        room = omega (arith, rem_cap, so.shape.room);
        small = omega (arith, rem_cap, so.shape.small);
        used = omega (arith, rem_cap, rem_used, so.shape.used);
        gaps = rem_gaps;
        within = omega (arith, rem_end, wo.low, so.shape.within);
      };
      filled = rem_filled;
      inside = rem_inside;
      apart = λ i j h q.
          let v = rem_kept i (omega arith) in
          let w = rem_kept j q in
          rw (v.same, w.same) (so.apart v.j w.j (kept_lt v w h) (omega (arith, w.below)));
      exact = rem_exact;
    };
    rows = remove_rows;
    cap = rem_cap;
    format = rem_kind.1;
  }

-- the numbers as the code has read them
module _ (b : List ℕ) (n u e o k r : ℕ) (hr : r < count_of b) (en : n ≡ count_of b) (eu : (u ≡ used_of b) × (u < 2 ^ 32)) (ee : (e ≡ end_of b) × (e < 2 ^ 32))
    (eo : o ≡ off_of (slot_of b r)) (ek : k ≡ size_of (slot_of b r)) (so : Sound b) where
  pub remove_never : u < k → ⊥
  remove_never h = omega (arith, size_used b r so hr)

  pub remove_is : (b1 b2 : List ℕ) (x : ℕ) → EndWithout n e o k x
      → b1 ≡ splice b (slot_at r) (part (slot_at r + 24) (24 * (n - (r + 1))) b)
      → b2 ≡ splice b1 12 (le4 (n - 1) ++ (le4 (u - k) ++ le4 x)) → Removed b b2 r
  remove_is b1 b2 x wo g1 g2 =
      let sh = so.shape in
      let p1 = write b b1 (slot_at r) (24 * (n - (r + 1))) (part (slot_at r + 24) (24 * (n - (r + 1))) b) g1 (length_part (slot_at r + 24) (24 * (n - (r + 1))) b (omega arith)) (omega arith) in
      let p2 = write b1 b2 12 12 (le4 (n - 1) ++ (le4 (u - k) ++ le4 x)) g2 (counts_size (n - 1) (u - k) x) (omega arith) in
      removed b b1 b2 n u e o k x r so (sym en) (sym eu.0) (sym ee.0) (sym eo) (sym ek) (omega arith) eu.1 ee.1 wo p1 p2
