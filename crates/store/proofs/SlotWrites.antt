-- One number of a slot written anew: all else is as it was.
-- Assumes nothing.
use mathlib.Core.Path.{◌≡◌, sym, ◌∙◌}
use mathlib.Core.Logic.{◌⊎◌, ⊎_elim}
use Prim.Native.Nat.{ℕ, ◌+◌, ◌≤◌, ◌<◌, ◌^◌}
use mathlib.Core.List.{List}
use native.Mathlib.Omega.{arith}
use lib.ListN.{length}
use Rattle.base.specs.Buffer.{part, splice}
use Rattle.store.specs.Buffer.{num4, le4}
use Rattle.store.specs.Layout.{heap_start, format_of, slot_at, slot_of}
use Rattle.base.proofs.Writes.{Write, before, after}
use Rattle.store.proofs.Numbers.{num4_part, num4_le4, num_within, num_before, num_after}
use Rattle.store.proofs.Joined.{le4_write}
use Rattle.store.proofs.Headers.{kind_same}
use Rattle.store.proofs.RowPlaces.{three}

-- m is l with the number at q of slot r turned to v
module _ (l m : List ℕ) (r q v : ℕ) (few : r < 640) (in_slot : q + 4 ≤ 24) (long : heap_start ≤ length l) (e : m ≡ splice l (slot_at r + q) (le4 v)) where
  p : Write l m (slot_at r + q) 4 (le4 v)
  p = le4_write l m (slot_at r + q) v e (omega arith)

  pub slot_length : length m ≡ length l
  slot_length = p.len

  pub slot_others : (i : ℕ) → i < 640 → (i ≡ r → ⊥) → slot_of m i ≡ slot_of l i
  slot_others i h ne =
      ⊎_elim (λ z. before p (slot_at i) 24 (omega arith))
      (λ y. ⊎_elim (λ z. absurd (ne z)) (λ z. after p (slot_at i) 24 (omega arith) (omega arith)) y) (three i r)

  pub slot_kept : (c : ℕ) → c + 4 ≤ 24 → (c + 4 ≤ q) ⊎ (q + 4 ≤ c) → num4 (slot_of m r) c ≡ num4 (slot_of l r) c
  slot_kept c h w =
      num4_part (slot_at r) 24 m c h
      ∙ ⊎_elim (λ z. num_before p (slot_at r + c) (omega arith)) (λ z. num_after p (slot_at r + c) (omega arith) (omega arith)) w
      ∙ sym (num4_part (slot_at r) 24 l c h)

  pub slot_now : v < 2 ^ 32 → num4 (slot_of m r) q ≡ v
  slot_now h = num4_part (slot_at r) 24 m q in_slot ∙ num_within p (slot_at r + q) 0 (omega arith) (omega arith) ∙ num4_le4 v h

  pub slot_heap : (a c : ℕ) → heap_start ≤ a → a + c ≤ length l → part a c m ≡ part a c l
  slot_heap a c h w = after p a c (omega arith) w

  pub slot_head : (j : ℕ) → j + 4 ≤ 64 → num4 m j ≡ num4 l j
  slot_head j h = num_before p j (omega arith)

  pub slot_kind : (part 0 7 m ≡ part 0 7 l) × (format_of m ≡ format_of l)
  slot_kind = kind_same l m (omega arith) (omega (arith, p.len)) (before p 0 8 (omega arith))
