-- Offsets lowered, slot by slot.
-- Assumes nothing.
use mathlib.Core.Path.{◌≡◌, refl, sym, ap, ◌∙◌}
use mathlib.Core.Bool.{cond}
use mathlib.Core.Logic.{◌⊎◌, ⊎_elim}
use Prim.Native.Nat.{ℕ, ◌+◌, ◌-◌, ◌≤◌, ◌<◌, ◌^◌}
use mathlib.Core.List.{List}
use native.Mathlib.Omega.{arith}
use native.Mathlib.Nat.{add-zero}
use lib.Dec.{leb}
use lib.ListN.{length}
use borrow.Author.Tests.{le-leb, lt-leb}
use Rattle.base.specs.Buffer.{part, splice}
use Rattle.store.specs.Buffer.{le4}
use Rattle.store.specs.Layout.{header_size, heap_start, slot_at, slot_of, off_of}
use Rattle.store.specs.Places.{Shifted}
use Rattle.base.proofs.Writes.{Write, before, after, part_part}
use Rattle.store.proofs.Numbers.{num4_part, num4_le4, num_within}
use Rattle.store.proofs.Joined.{le4_write}
use Rattle.store.proofs.RowPlaces.{three}
use Rattle.store.proofs.Scanning.{last}

-- a slot that no lowering meets
pub shift_none : (s : List ℕ) (c : ℕ) → Shifted s s c 0
shift_none s c = record { same = refl; low = λ h. refl; high = λ h. omega arith }

-- m is b with the first i slots lowered
pub record Lowering (b m : List ℕ) (i c k : ℕ) : Type 0 where
  pub len : length m ≡ length b
  pub done : (h : ℕ) → h < i → Shifted (slot_of b h) (slot_of m h) c k
  pub todo : (h : ℕ) → i ≤ h → h < 640 → slot_of m h ≡ slot_of b h
  pub rest : (a l : ℕ) → (a + l ≤ header_size) ⊎ (heap_start ≤ a) → a + l ≤ length b → part a l m ≡ part a l b

-- slot i is written with the offset v
module _ (b m o : List ℕ) (i c k x v : ℕ) (w : Lowering b m i c k) (few : i < 640) (room : heap_start ≤ length b) (ex : x ≡ off_of (slot_of m i)) (small : x < 2 ^ 32)
    (hk : k ≤ c) (ev : (v ≡ cond (leb c x) (x - k) x) × (v ≤ x)) (e : o ≡ splice m (slot_at i) (le4 v)) where
  p : Write m o (slot_at i) 4 (le4 v)
  p = le4_write m o (slot_at i) v e (omega (arith, w.len))

  slot_kept : (h : ℕ) → h < 640 → (h ≡ i → ⊥) → slot_of o h ≡ slot_of m h
  slot_kept h q ne =
      ⊎_elim (λ z. before p (slot_at h) 24 (omega arith))
      (λ y. ⊎_elim (λ z. absurd (ne z)) (λ z. after p (slot_at h) 24 (omega arith) (omega (arith, w.len))) y) (three h i)

  tail_kept : part 4 20 (slot_of o i) ≡ part 4 20 (slot_of b i)
  tail_kept =
      part_part (slot_at i) 24 4 20 o (omega arith) (omega (arith, w.len, p.len)) ∙ after p (slot_at i + 4) 20 (omega arith) (omega (arith, w.len))
      ∙ sym (part_part (slot_at i) 24 4 20 m (omega arith) (omega (arith, w.len))) ∙ ap (part 4 20) (w.todo i (omega arith) few)

  offset_was : off_of (slot_of b i) ≡ x
  offset_was = ap (λ (s : List ℕ). off_of s) (sym (w.todo i (omega arith) few)) ∙ sym ex

  offset_now : off_of (slot_of o i) ≡ v
  offset_now =
      let f = num4_part (slot_at i) 24 o 0 (omega arith) in
      (rw add-zero at f) ∙ num_within p (slot_at i) 0 (omega arith) (omega arith) ∙ num4_le4 v (omega arith)

  shifted : Shifted (slot_of b i) (slot_of o i) c k
  shifted = record {
    same = tail_kept;
    low = λ h. offset_now ∙ ev.0 ∙ rw (lt-leb c x (omega (arith, offset_was))) (sym offset_was);
    high = λ h.
        let f : v ≡ x - k = ev.0 ∙ rw (le-leb c x (omega (arith, offset_was))) refl in
        omega (arith, offset_now, offset_was);
  }

  pub lower_more : Lowering b o (i + 1) c k
  lower_more = record {
    len = p.len ∙ w.len;
    done = λ h q. ⊎_elim
        (λ z. let f = slot_kept h (omega arith) (λ y. omega arith) in rw f (w.done h z))
        (λ z. rw z shifted) (last h i q);
    todo = λ h q y. slot_kept h y (λ z. omega arith) ∙ w.todo h (omega arith) y;
    rest = λ a l h q. ⊎_elim (λ z. before p a l (omega arith)) (λ z. after p a l (omega arith) (omega (arith, w.len))) h ∙ w.rest a l h q;
  }
