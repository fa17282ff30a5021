-- What four writes make of a package: a row is put in.
-- Assumes nothing.
use mathlib.Core.Path.{◌≡◌, refl, sym, ap, ◌∙◌}
use mathlib.Core.Logic.{◌⊎◌, inl, inr, ⊎_elim}
use Prim.Native.Nat.{ℕ, suc, ◌+◌, ◌-◌, ◌*◌, ◌≤◌, ◌<◌, ◌^◌}
use mathlib.Core.List.{List, [], ◌++◌, append-nil, append_assoc}
use native.Mathlib.Omega.{arith}
use native.Mathlib.Numerals.{add-one}
use lib.ListN.{length, length-append}
use Rattle.base.specs.Buffer.{part, splice}
use Rattle.store.specs.Buffer.{le4}
use Rattle.store.specs.Layout.{heap_start, heap_size, format_of, cap_of, count_of, used_of, end_of, slot_at, slot_of, slot_bytes, off_of, size_of}
use Rattle.store.specs.Rows.{make_row, row_of, row_at, rows_of, tabulate, insert_at, total}
use Rattle.store.specs.Packages.{Sound, Apart, Room, Inserted}
use Rattle.store.specs.Places.{Placed}
use Rattle.base.proofs.Parts.{length_part}
use Rattle.base.proofs.Writes.{Write, write, before, after, within, part_part, part_all, part_mid}
use Rattle.store.proofs.Numbers.{num_within, num_before}
use Rattle.store.proofs.Headers.{counts_0, counts_4, counts_8, counts_size, kind_same, rows_count}
use Rattle.store.proofs.SlotNumbers.{slot_size_lem, slot_0, slot_4, slot_8, slot_12, slot_16, slot_20}
use Rattle.store.proofs.RowPlaces.{three, row_same}
use Rattle.store.proofs.Tabulated.{tabulate_insert, total_insert}

-- slot i of m is slot j of b, before the new slot r or past it
record Old (b m : List ℕ) (n r i : ℕ) : Type 0 where
  j : ℕ
  same : slot_of m i ≡ slot_of b j
  below : j < n
  shift : ((i ≡ j) × (j < r)) ⊎ ((i ≡ suc j) × (r ≤ j))

old_lt : {b m : List ℕ} {n r i k : ℕ} (x : Old b m n r i) (y : Old b m n r k) → i < k → x.j < y.j
old_lt {b} {m} {n} {r} {i} {k} x y h =
    ⊎_elim (λ v. ⊎_elim (λ w. omega arith) (λ w. omega arith) y.shift) (λ v. ⊎_elim (λ w. omega arith) (λ w. omega arith) y.shift) x.shift

-- the four fields of a row and their size
abbrev fields : List ℕ → List ℕ → List ℕ → List ℕ → List ℕ
fields w x y z = w ++ (x ++ (y ++ z))

abbrev size : List ℕ → List ℕ → List ℕ → List ℕ → ℕ
size w x y z = length w + (length x + (length y + length z))

module _ (w x y z : List ℕ) where
  field_0 : part 0 (length w) (fields w x y z) ≡ w
  field_0 = part_mid 0 (length w) [] w (x ++ (y ++ z)) refl refl

  field_1 : part (length w) (length x) (fields w x y z) ≡ x
  field_1 = part_mid (length w) (length x) w x (y ++ z) refl refl

  field_2 : part (length w + length x) (length y) (fields w x y z) ≡ y
  field_2 = ap (part (length w + length x) (length y)) (sym (append_assoc w x (y ++ z))) ∙ part_mid (length w + length x) (length y) (w ++ x) y z (length-append w x) refl

  field_3 : part (length w + length x + length y) (length z) (fields w x y z) ≡ z
  field_3 =
      let e : fields w x y z ≡ (w ++ (x ++ y)) ++ (z ++ []) = simp (append_assoc, append-nil) in
      ap (part (length w + length x + length y) (length z)) e
      ∙ part_mid (length w + length x + length y) (length z) (w ++ (x ++ y)) z [] (simp length-append (omega arith)) refl

-- the bytes, the slots moved up, the new slot, the counts; u bytes are in use, and the new ones lie at a, the end
module _ (b b1 b2 b3 b4 : List ℕ) (n u a r t : ℕ) (f0 f1 f2 f3 : List ℕ)
    (so : Sound b) (en : count_of b ≡ n) (eu : used_of b ≡ u) (ea : end_of b ≡ a) (hr : r ≤ n) (hn : n < 640)
    (fit : u + size f0 f1 f2 f3 ≤ cap_of b) (room : a + size f0 f1 f2 f3 + heap_start ≤ length b) (big : a + size f0 f1 f2 f3 < 2 ^ 32)
    (some : 0 < length f0) (ht : t < 2 ^ 32)
    (p1 : Write b b1 (heap_start + a) (size f0 f1 f2 f3) (fields f0 f1 f2 f3))
    (p2 : Write b1 b2 (slot_at r + 24) (24 * (n - r)) (part (slot_at r) (24 * (n - r)) b1))
    (p3 : Write b2 b3 (slot_at r) 24 (slot_bytes a (length f0) (length f1) (length f2) (length f3) t))
    (p4 : Write b3 b4 12 12 (le4 (n + 1) ++ (le4 (u + size f0 f1 f2 f3) ++ le4 (a + size f0 f1 f2 f3)))) where
  ins_slot_lo : (i : ℕ) → i < r → slot_of b4 i ≡ slot_of b i
  ins_slot_lo i h =
      after p4 (slot_at i) 24 (omega arith) (omega arith) ∙ before p3 (slot_at i) 24 (omega arith)
      ∙ before p2 (slot_at i) 24 (omega arith) ∙ before p1 (slot_at i) 24 (omega arith)

  ins_slot_at : slot_of b4 r ≡ slot_bytes a (length f0) (length f1) (length f2) (length f3) t
  ins_slot_at =
      after p4 (slot_at r) 24 (omega arith) (omega arith) ∙ within p3 (slot_at r) 0 24 (omega arith) (omega arith)
      ∙ part_all 24 (slot_bytes a (length f0) (length f1) (length f2) (length f3) t) p3.size

  ins_slot_hi : (i : ℕ) → r ≤ i → i < n → slot_of b4 (suc i) ≡ slot_of b i
  ins_slot_hi i h q =
      let e : slot_at r + 24 * (i - r) ≡ slot_at i = omega arith in
      after p4 (slot_at (suc i)) 24 (omega arith) (omega arith) ∙ after p3 (slot_at (suc i)) 24 (omega arith) (omega arith)
      ∙ within p2 (slot_at (suc i)) (24 * (i - r)) 24 (omega arith) (omega arith)
      ∙ part_part (slot_at r) (24 * (n - r)) (24 * (i - r)) 24 b1 (omega arith) (omega arith)
      ∙ ap (λ (k : ℕ). part k 24 b1) e
      ∙ before p1 (slot_at i) 24 (omega arith)

  ins_heap : (i k : ℕ) → heap_start ≤ i → i + k ≤ heap_start + a → part i k b4 ≡ part i k b
  ins_heap i k h q =
      after p4 i k (omega arith) (omega arith) ∙ after p3 i k (omega arith) (omega arith) ∙ after p2 i k (omega arith) (omega arith) ∙ before p1 i k q

  ins_new : (j i k : ℕ) → j ≡ heap_start + a + i → i + k ≤ size f0 f1 f2 f3 → part j k b4 ≡ part i k (fields f0 f1 f2 f3)
  ins_new j i k e q =
      after p4 j k (omega arith) (omega arith) ∙ after p3 j k (omega arith) (omega arith) ∙ after p2 j k (omega arith) (omega arith) ∙ within p1 j i k e q

  ins_count : count_of b4 ≡ n + 1
  ins_count = num_within p4 12 0 (omega arith) (omega arith) ∙ counts_0 (n + 1) _ _ (omega arith)

  ins_used : used_of b4 ≡ u + size f0 f1 f2 f3
  ins_used = num_within p4 16 4 (omega arith) (omega arith) ∙ counts_4 (n + 1) _ _ (omega (arith, so.shape.gaps))

  ins_end : end_of b4 ≡ a + size f0 f1 f2 f3
  ins_end = num_within p4 20 8 (omega arith) (omega arith) ∙ counts_8 (n + 1) (u + size f0 f1 f2 f3) _ big

  ins_cap : cap_of b4 ≡ cap_of b
  ins_cap = num_before p4 8 (omega arith) ∙ num_before p3 8 (omega arith) ∙ num_before p2 8 (omega arith) ∙ num_before p1 8 (omega arith)

  ins_row_at : row_at b4 r ≡ make_row t f0 f1 f2 f3
  unfolding row_of
  ins_row_at =
      let z0 = slot_0 a (length f0) (length f1) (length f2) (length f3) t (omega arith) in
      let z1 = slot_4 a (length f0) (length f1) (length f2) (length f3) t (omega arith) in
      let z2 = slot_8 a (length f0) (length f1) (length f2) (length f3) t (omega arith) in
      let z3 = slot_12 a (length f0) (length f1) (length f2) (length f3) t (omega arith) in
      let z4 = slot_16 a (length f0) (length f1) (length f2) (length f3) t (omega arith) in
      let z5 = slot_20 a (length f0) (length f1) (length f2) (length f3) t ht in
      let q0 = ins_new (heap_start + a) 0 (length f0) (omega arith) (omega arith) ∙ field_0 f0 f1 f2 f3 in
      let q1 = ins_new (heap_start + a + length f0) (length f0) (length f1) (omega arith) (omega arith) ∙ field_1 f0 f1 f2 f3 in
      let q2 = ins_new (heap_start + a + length f0 + length f1) (length f0 + length f1) (length f2) (omega arith) (omega arith) ∙ field_2 f0 f1 f2 f3 in
      let q3 = ins_new (heap_start + a + length f0 + length f1 + length f2) (length f0 + length f1 + length f2) (length f3) (omega arith) (omega arith) ∙ field_3 f0 f1 f2 f3 in
      rw (ins_slot_at, z0, z1, z2, z3, z4, z5, q0, q1, q2, q3)

  ins_off : off_of (slot_of b4 r) ≡ a
  ins_off = rw ins_slot_at (slot_0 a (length f0) (length f1) (length f2) (length f3) t (omega arith))

  ins_size : size_of (slot_of b4 r) ≡ size f0 f1 f2 f3
  ins_size =
      let z1 = slot_4 a (length f0) (length f1) (length f2) (length f3) t (omega arith) in
      let z2 = slot_8 a (length f0) (length f1) (length f2) (length f3) t (omega arith) in
      let z3 = slot_12 a (length f0) (length f1) (length f2) (length f3) t (omega arith) in
      let z4 = slot_16 a (length f0) (length f1) (length f2) (length f3) t (omega arith) in
      rw ins_slot_at (omega arith)

  -- slot i is the new one, or an old one
  ins_place : (i : ℕ) → i < count_of b4 → (i ≡ r) ⊎ Old b b4 n r i
  ins_place i h =
      let g : i < n + 1 = omega (arith, ins_count) in
      ⊎_elim (λ q. inr (record { j = i; same = ins_slot_lo i q; below = omega arith; shift = inl (refl, q) }))
      (λ w. ⊎_elim (λ e. inl e)
      (λ q. let e : i ≡ suc (i - 1) = omega arith in
      inr (record { j = i - 1; same = ap (slot_of b4) e ∙ ins_slot_hi (i - 1) (omega arith) (omega arith); below = omega arith; shift = inr (e, omega arith) })) w)
      (three i r)

  ins_filled : (i : ℕ) → i < count_of b4 → 0 < size_of (slot_of b4 i)
  ins_filled i h = ⊎_elim (λ e. rw e (omega (arith, ins_size))) (λ o. rw o.same (so.filled o.j (omega arith))) (ins_place i h)

  ins_inside : (i : ℕ) → i < count_of b4 → off_of (slot_of b4 i) + size_of (slot_of b4 i) ≤ end_of b4
  ins_inside i h =
      ⊎_elim (λ e. rw e (omega (arith, ins_off, ins_size, ins_end)))
      (λ o. rw o.same (omega (arith, so.inside o.j (omega arith), ins_end)))
      (ins_place i h)

  -- an old row's place lies below the new one's
  ins_below : (i : ℕ) → Old b b4 n r i → off_of (slot_of b4 i) + size_of (slot_of b4 i) ≤ off_of (slot_of b4 r)
  ins_below i o = rw o.same (omega (arith, so.inside o.j (omega arith), ins_off))

  ins_apart : (i j : ℕ) → i < j → j < count_of b4 → Apart (slot_of b4 i) (slot_of b4 j)
  ins_apart i j h q =
      ⊎_elim
      (λ e. ⊎_elim (λ e2. absurd (omega arith)) (λ o. rw e (inr (ins_below j o))) (ins_place j q))
      (λ x. ⊎_elim (λ e2. rw e2 (inl (ins_below i x)))
      (λ y. rw (x.same, y.same) (so.apart x.j y.j (old_lt x y h) (omega arith))) (ins_place j q))
      (ins_place i (omega arith))

  ins_row_old : (i j : ℕ) → j < n → slot_of b4 i ≡ slot_of b j → row_at b4 i ≡ row_at b j
  ins_row_old i j h e =
      row_same b b4 (slot_of b j) (slot_of b4 i) e (λ x c v w. ins_heap x c (omega arith) (omega (arith, so.inside j (omega arith))))

  insert_rows : rows_of b4 ≡ insert_at r (make_row t f0 f1 f2 f3) (rows_of b)
  insert_rows =
      ap (λ (k : ℕ). tabulate k (row_at b4)) (ins_count ∙ add-one n)
      ∙ tabulate_insert r n (row_at b) (row_at b4) (make_row t f0 f1 f2 f3) hr
      (λ i h. ins_row_old i i (omega arith) (ins_slot_lo i h)) ins_row_at (λ i h q. ins_row_old (suc i) i q (ins_slot_hi i h q))
      ∙ ap (λ (k : ℕ). insert_at r (make_row t f0 f1 f2 f3) (tabulate k (row_at b))) (sym en)

  ins_kind : (part 0 7 b4 ≡ part 0 7 b) × (format_of b4 ≡ format_of b)
  ins_kind = kind_same b b4 (omega arith) (omega arith)
      (before p4 0 8 (omega arith) ∙ before p3 0 8 (omega arith) ∙ before p2 0 8 (omega arith) ∙ before p1 0 8 (omega arith))

  pub inserted : Inserted b b4 r (make_row t f0 f1 f2 f3)
  inserted = record {
    sound = record {
      marked = ins_kind.0 ∙ so.marked;
      shape = record {
        few = omega (arith, ins_count);
        room = omega (arith, ins_cap, so.shape.room);
        small = omega (arith, ins_cap, so.shape.small);
        used = omega (arith, ins_cap, ins_used);
        gaps = omega (arith, ins_used, ins_end, so.shape.gaps);
        within = omega (arith, ins_end);
      };
      filled = ins_filled;
      inside = ins_inside;
      apart = ins_apart;
      exact = ap total insert_rows ∙ total_insert r (make_row t f0 f1 f2 f3) (rows_of b) ∙ omega (arith, ins_used, so.exact);
    };
    rows = insert_rows;
    cap = ins_cap;
    format = ins_kind.1;
  }

-- b is the package at entry, l once the free place a for k bytes is found; n and u are as the code has read them
module _ (b l : List ℕ) (n u a r k : ℕ) (ro : Room b r k) (en : n ≡ count_of b) (eu : u ≡ used_of b) (pl : Placed b l k a) (so : Sound b) where
  same_count : count_of l ≡ n
  same_count = sym (rows_count l) ∙ ap length pl.rows ∙ rows_count b ∙ sym en

  same_used : used_of l ≡ u
  same_used = sym pl.sound.exact ∙ ap total pl.rows ∙ so.exact ∙ sym eu

  pub insert_is : (b1 b2 b3 b4 : List ℕ) (f0 f1 f2 f3 : List ℕ) (t h : ℕ) → k ≡ size f0 f1 f2 f3 → 0 < length f0 → t < 2 ^ 32 → h ≡ heap_size l → a + k ≤ h
      → b1 ≡ splice l (heap_start + a) (fields f0 f1 f2 f3)
      → b2 ≡ splice b1 (slot_at r + 24) (part (slot_at r) (24 * (n - r)) b1)
      → b3 ≡ splice b2 (slot_at r) (slot_bytes a (length f0) (length f1) (length f2) (length f3) t)
      → b4 ≡ splice b3 12 (le4 (n + 1) ++ (le4 (u + k) ++ le4 (a + k)))
      → Inserted b b4 r (make_row t f0 f1 f2 f3)
  insert_is b1 b2 b3 b4 f0 f1 f2 f3 t h ek pos ht eh q e1 e2 e3 e4 =
      let len : heap_start ≤ length l = omega (arith, pl.sound.shape.within) in
      let p1 = write l b1 (heap_start + a) (size f0 f1 f2 f3) (fields f0 f1 f2 f3) e1 (simp length-append) (omega arith) in
      let p2 = write b1 b2 (slot_at r + 24) (24 * (n - r)) (part (slot_at r) (24 * (n - r)) b1) e2 (length_part (slot_at r) (24 * (n - r)) b1 (omega arith)) (omega arith) in
      let p3 = write b2 b3 (slot_at r) 24 (slot_bytes a (length f0) (length f1) (length f2) (length f3) t) e3 (slot_size_lem a (length f0) (length f1) (length f2) (length f3) t) (omega arith) in
      let e4' : b4 ≡ splice b3 12 (le4 (n + 1) ++ (le4 (u + size f0 f1 f2 f3) ++ le4 (a + size f0 f1 f2 f3))) = rw ek at e4 in
      let p4 = write b3 b4 12 12 _ e4' (counts_size (n + 1) (u + size f0 f1 f2 f3) (a + size f0 f1 f2 f3)) (omega arith) in
      let w = inserted l b1 b2 b3 b4 n u a r t f0 f1 f2 f3 pl.sound same_count same_used (sym pl.end) (omega arith) (omega arith) (omega (arith, pl.cap)) (omega arith) (omega arith) pos ht p1 p2 p3 p4 in
      record {
        sound = w.sound;
        rows = w.rows ∙ ap (insert_at r (make_row t f0 f1 f2 f3)) pl.rows;
        cap = w.cap ∙ pl.cap;
        format = w.format ∙ pl.format;
      }
