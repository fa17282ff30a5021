-- A slot's numbers: as they are written, and where they stand in the buffer.
-- Assumes nothing.
use mathlib.Core.Path.{◌≡◌, refl, sym}
use Prim.Native.Nat.{ℕ, ◌+◌, ◌≤◌, ◌<◌, ◌^◌}
use mathlib.Core.List.{List}
use native.Mathlib.Omega.{arith}
use lib.ListN.{length}
use Rattle.store.specs.Buffer.{num4, le4}
use Rattle.store.specs.Layout.{slot_at, slot_of, slot_bytes}
use Rattle.store.proofs.Numbers.{num4_part}

-- the numbers of a slot that was written
module _ (o a b c d t : ℕ) where
  pub slot_size_lem : length (slot_bytes o a b c d t) ≡ 24
  unfolding slot_bytes le4
  slot_size_lem = refl

  pub slot_0 : o < 2 ^ 32 → num4 (slot_bytes o a b c d t) 0 ≡ o
  unfolding slot_bytes le4 num4
  slot_0 h = omega arith

  pub slot_4 : a < 2 ^ 32 → num4 (slot_bytes o a b c d t) 4 ≡ a
  unfolding slot_bytes le4 num4
  slot_4 h = omega arith

  pub slot_8 : b < 2 ^ 32 → num4 (slot_bytes o a b c d t) 8 ≡ b
  unfolding slot_bytes le4 num4
  slot_8 h = omega arith

  pub slot_12 : c < 2 ^ 32 → num4 (slot_bytes o a b c d t) 12 ≡ c
  unfolding slot_bytes le4 num4
  slot_12 h = omega arith

  pub slot_16 : d < 2 ^ 32 → num4 (slot_bytes o a b c d t) 16 ≡ d
  unfolding slot_bytes le4 num4
  slot_16 h = omega arith

  pub slot_20 : t < 2 ^ 32 → num4 (slot_bytes o a b c d t) 20 ≡ t
  unfolding slot_bytes le4 num4
  slot_20 h = omega arith

-- where a slot's numbers stand in the buffer
pub slot_num : (b : List ℕ) (i k : ℕ) → k + 4 ≤ 24 → num4 b (slot_at i + k) ≡ num4 (slot_of b i) k
slot_num b i k h = sym (num4_part (slot_at i) 24 b k h)
