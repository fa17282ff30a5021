-- A run of bytes that is still to be moved, seen as moved already: then each row that joins it is settled at once.
-- Assumes nothing.
use mathlib.Core.Path.{◌≡◌, refl, sym, ap, ◌∙◌}
use mathlib.Core.Logic.{⊎_elim}
use Prim.Native.Nat.{ℕ, ◌+◌, ◌-◌, ◌≤◌, ◌<◌}
use mathlib.Core.List.{List, ◌++◌}
use native.Mathlib.Omega.{arith}
use lib.ListN.{length}
use Rattle.base.specs.Buffer.{part, splice}
use Rattle.store.specs.Buffer.{le4}
use Rattle.store.specs.Layout.{heap_start, slot_at, slot_of, off_of, size_of}
use Rattle.store.specs.Places.{Settled, Carried, carried}
use Rattle.base.proofs.Parts.{length_part, splice_part, part_add}
use Rattle.base.proofs.Writes.{Write, write, before, after, join, commute}
use Rattle.store.proofs.Joined.{le4_write}

pub carry_is : (b m : List ℕ) (a q c : ℕ) → m ≡ splice b (heap_start + (c - q)) (part (heap_start + a) q b) → m ≡ carried b a q c
unfolding carried
carry_is b m a q c e = e

pub carry_left : (b m : List ℕ) (a q c o x : ℕ) → Carried b m a q c o x → x ≤ q
carry_left b m a q c o x s = ⊎_elim (λ z. omega arith) (λ z. omega arith) s.is

-- nothing is to be moved
pub carried_none : (m : List ℕ) → heap_start ≤ length m → carried m 0 0 0 ≡ m
unfolding carried
carried_none m h = splice_part heap_start 0 m (omega arith)

module _ (m : List ℕ) (a q c : ℕ) (hq : q ≤ c) (hc : c ≤ a + q) (room : heap_start + (a + q) ≤ length m) where
  pub carry_write : Write m (carried m a q c) (heap_start + (c - q)) q (part (heap_start + a) q m)
  unfolding carried
  carry_write = write m (carried m a q c) (heap_start + (c - q)) q (part (heap_start + a) q m) refl (length_part (heap_start + a) q m (omega arith)) (omega arith)

  -- the slots lie before the heap
  pub carry_slot : (i : ℕ) → i < 640 → slot_of (carried m a q c) i ≡ slot_of m i
  carry_slot i h = before carry_write (slot_at i) 24 (omega arith)

  -- k bytes more go with the run
  carry_longer : (k : ℕ) → heap_start + (a + q) + k ≤ length m
      → carried m a (q + k) (c + k) ≡ splice (carried m a q c) (heap_start + c) (part (heap_start + (a + q)) k (carried m a q c))
  unfolding carried
  carry_longer k h =
      let v : List ℕ = carried m a q c in
      let y : List ℕ = part (heap_start + (a + q)) k m in
      let ey : part (heap_start + (a + q)) k v ≡ y = after carry_write (heap_start + (a + q)) k (omega arith) h in
      let ly : length y ≡ k = length_part (heap_start + (a + q)) k m h in
      let ei : c + k - (q + k) ≡ c - q = omega arith in
      let ea : heap_start + a + q ≡ heap_start + (a + q) = omega arith in
      let p = write v (splice v (heap_start + c) y) (heap_start + c) k y refl ly (omega (arith, carry_write.len)) in
      ap (λ (i : ℕ). splice m (heap_start + i) (part (heap_start + a) (q + k) m)) ei
      ∙ ap (splice m (heap_start + (c - q))) (part_add (heap_start + a) q k m ∙ ap (λ (i : ℕ). part (heap_start + a) q m ++ part i k m) ea)
      ∙ sym (join (heap_start + c) k carry_write p (omega arith)).is ∙ ap (splice v (heap_start + c)) (sym ey)

  -- a slot is written before the move or behind it
  carry_after_slot : (r x : ℕ) → r < 640 → carried (splice m (slot_at r) (le4 x)) a q c ≡ splice (carried m a q c) (slot_at r) (le4 x)
  unfolding carried
  carry_after_slot r x h =
      let p = le4_write m (splice m (slot_at r) (le4 x)) (slot_at r) x refl (omega arith) in
      let l : length (part (heap_start + a) q m) ≡ q = length_part (heap_start + a) q m (omega arith) in
      ap (splice (splice m (slot_at r) (le4 x)) (heap_start + (c - q))) (after p (heap_start + a) q (omega arith) (omega arith))
      ∙ commute m (slot_at r) (le4 x) (heap_start + (c - q)) (part (heap_start + a) q m) (omega (arith, p.size)) (omega arith)

-- the row at o is settled at c: its slot is written, and its bytes go with the run or begin one
module _ (m m1 m2 : List ℕ) (a q c o k r x : ℕ) (hq : q ≤ c) (hc : c ≤ a + q) (ho : a + q ≤ o) (room : heap_start + (o + k) ≤ length m) (hr : r < 640)
    (cr : Carried m m1 a q c o x) (e2 : m2 ≡ splice m1 (slot_at r) (le4 c)) where
  carry_row : carried m2 (o - x) (x + k) (c + k)
      ≡ splice (splice (carried m a q c) (heap_start + c) (part (heap_start + o) k (carried m a q c))) (slot_at r) (le4 c)
  unfolding carried
  carry_row =
      let v : List ℕ = carried m a q c in
      let lv = (carry_write m a q c hq hc (omega arith)).len in
      ⊎_elim
      (λ z.
      let em : m2 ≡ splice m (slot_at r) (le4 c) = e2 ∙ ap (λ (l : List ℕ). splice l (slot_at r) (le4 c)) z.2 in
      let e3 : o - x ≡ a = omega arith in
      let e4 : x + k ≡ q + k = omega arith in
      rw (em, e3, e4, z.0) (carry_after_slot m a (q + k) (c + k) (omega arith) (omega arith) (omega arith) r c hr
      ∙ ap (λ (l : List ℕ). splice l (slot_at r) (le4 c)) (carry_longer m a q c hq hc (omega arith) k (omega arith))))
      (λ z.
      let em : m2 ≡ splice v (slot_at r) (le4 c) = e2 ∙ ap (λ (l : List ℕ). splice l (slot_at r) (le4 c)) z.1 in
      let e3 : o - x ≡ o = omega arith in
      let e4 : x + k ≡ k = omega arith in
      let e5 : c + k - k ≡ c = omega arith in
      rw (em, e3, e4) (carry_after_slot v o k (c + k) (omega arith) (omega arith) (omega arith) r c hr
      ∙ ap (λ (i : ℕ). splice (splice v (heap_start + i) (part (heap_start + o) k v)) (slot_at r) (le4 c)) e5))
      cr.is

  pub carry_settled : (e : ℕ) → k ≡ size_of (slot_of m r) → o + k ≤ e → off_of (slot_of m r) ≡ o → Settled (carried m a q c) (carried m2 (o - x) (x + k) (c + k)) r c e k
  carry_settled e ek h eo =
      let es = carry_slot m a q c hq hc (omega arith) r hr in
      record { fits = omega arith; moved = λ w. rw (es, eo) (ek, carry_row) }
