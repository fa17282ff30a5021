-- Bytes sent to the end of the heap: copied there, or turned behind all others.
-- Assumes nothing.
use mathlib.Core.Path.{◌≡◌, refl, ap, ◌∙◌}
use mathlib.Core.Logic.{inl, inr}
use Prim.Native.Nat.{ℕ, ◌+◌, ◌-◌, ◌≤◌}
use mathlib.Core.List.{List}
use native.Mathlib.Omega.{arith}
use lib.ListN.{length}
use Rattle.base.specs.Buffer.{part, splice}
use Rattle.store.specs.Buffer.{le4}
use Rattle.store.specs.Layout.{heap_start, heap_size, end_of, slot_at, slot_of}
use Rattle.store.specs.Places.{Shifted, Lowered, Sent}
use Rattle.base.proofs.Parts.{length_part}
use Rattle.base.proofs.Writes.{Write, write, before, after, within, part_all}
use Rattle.base.proofs.Turns.{turned, length_turned, turn_ahead, turn_last}
use Rattle.store.proofs.Numbers.{num4_same, num4_le4, num_within}
use Rattle.store.proofs.Joined.{le4_write}
use Rattle.store.proofs.Lowering.{shift_none}

module _ (b : List ℕ) (n e x k more : ℕ) (few : n ≤ 640) (hx : x + k ≤ e) (ee : e ≡ end_of b) (room : e + heap_start ≤ length b) where
  -- the end has room
  module _ (m1 m : List ℕ) (h : ℕ) (eh : h ≡ heap_size b) (fits : e + k + more ≤ h) (e1 : m1 ≡ splice b (heap_start + e) (part (heap_start + x) k b))
      (e2 : m ≡ splice m1 20 (le4 (e + k))) where
    p1 : Write b m1 (heap_start + e) k (part (heap_start + x) k b)
    p1 = write b m1 (heap_start + e) k (part (heap_start + x) k b) e1 (length_part (heap_start + x) k b (omega arith)) (omega arith)

    p2 : Write m1 m 20 4 (le4 (e + k))
    p2 = le4_write m1 m 20 (e + k) e2 (omega (arith, p1.len))

    past : (a l : ℕ) → heap_start ≤ a → a + l ≤ heap_start + e → part a l m ≡ part a l b
    past a l q w = after p2 a l (omega arith) (omega (arith, p1.len)) ∙ before p1 a l (omega arith)

    pub sent_copy : Sent b m n e x k more 0
    sent_copy = record {
      few = omega arith;
      room = inr (omega arith);
      kind = before p2 0 20 (omega arith) ∙ before p1 0 20 (omega arith);
      end = let f = num_within p2 20 0 (omega arith) (omega arith) ∙ num4_le4 (e + k) (omega arith) in omega (arith, f);
      slots = λ i q.
          let f : slot_of m i ≡ slot_of b i = after p2 (slot_at i) 24 (omega arith) (omega (arith, p1.len)) ∙ before p1 (slot_at i) 24 (omega arith) in
          rw f (shift_none (slot_of b i) (x + k));
      below = λ a l q. past (heap_start + a) l (omega arith) (omega arith);
      above = λ a l q w. let f : heap_start + (a - 0) ≡ heap_start + a = omega arith in rw f (past (heap_start + a) l (omega arith) (omega arith));
      sent =
          let f : heap_start + (e - 0) ≡ heap_start + e = omega arith in
          rw f (after p2 (heap_start + e) k (omega arith) (omega (arith, p1.len)) ∙ within p1 (heap_start + e) 0 k (omega arith) (omega arith)
          ∙ part_all k (part (heap_start + x) k b) p1.size);
    }

  -- it has none
  module _ (m1 m : List ℕ) (e1 : m1 ≡ splice b (heap_start + x) (turned (heap_start + x) (e - x) k b)) (w : Lowered m1 m n (x + k) k) where
    inner : heap_start + x + (e - x) ≤ length b
    inner = omega arith

    q1 : Write b m1 (heap_start + x) (e - x) (turned (heap_start + x) (e - x) k b)
    q1 = write b m1 (heap_start + x) (e - x) (turned (heap_start + x) (e - x) k b) e1 (length_turned b (heap_start + x) (e - x) inner k (omega arith)) inner

    pub sent_turn : Sent b m n e x k more k
    sent_turn = record {
      few = omega arith;
      room = inl refl;
      kind = w.rest 0 20 (inl (omega arith)) (omega (arith, q1.len)) ∙ before q1 0 20 (omega arith);
      end =
          let f : end_of m ≡ end_of b = num4_same m b 20 (w.rest 20 4 (inl (omega arith)) (omega (arith, q1.len)) ∙ before q1 20 4 (omega arith)) in
          omega (arith, f);
      slots = λ i q.
          let f : slot_of m1 i ≡ slot_of b i = before q1 (slot_at i) 24 (omega arith) in
          let g : Shifted (slot_of m1 i) (slot_of m i) (x + k) k = w.slots i q in
          rw f at g;
      below = λ a l q. w.rest (heap_start + a) l (inr (omega arith)) (omega (arith, q1.len)) ∙ before q1 (heap_start + a) l (omega arith);
      above = λ a l q v.
          let f : heap_start + (a - k) ≡ heap_start + a - k = omega arith in
          w.rest (heap_start + (a - k)) l (inr (omega arith)) (omega (arith, q1.len)) ∙ ap (λ (y : ℕ). part y l m1) f
          ∙ turn_ahead b (heap_start + x) (e - x) inner m1 k (omega arith) e1 (heap_start + a) l (omega arith) (omega arith);
      sent =
          let f : heap_start + (e - k) ≡ heap_start + x + (e - x - k) = omega arith in
          w.rest (heap_start + (e - k)) k (inr (omega arith)) (omega (arith, q1.len)) ∙ ap (λ (y : ℕ). part y k m1) f
          ∙ turn_last b (heap_start + x) (e - x) inner m1 k (omega arith) e1;
    }
