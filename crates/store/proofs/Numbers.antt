-- Numbers in a part, beside a write and inside it; and a number that was written is read back.
-- Assumes nothing.
use mathlib.Core.Path.{◌≡◌, sym, ap, ◌∙◌}
use Prim.Native.Nat.{ℕ, ◌+◌, ◌≤◌, ◌<◌, ◌^◌}
use mathlib.Core.List.{List}
use native.Mathlib.Omega.{arith}
use native.Mathlib.Nat.{add_assoc, add-zero}
use lib.ListN.{length, get_or}
use Rattle.base.specs.Buffer.{part}
use Rattle.base.proofs.Parts.{get_or_part}
use Rattle.base.proofs.Writes.{Write, before, after, within}
use Rattle.store.specs.Buffer.{num4, le4}

pub num4_part : (a n : ℕ) (l : List ℕ) (k : ℕ) → k + 4 ≤ n → num4 (part a n l) k ≡ num4 l (a + k)
unfolding num4
num4_part a n l k h =
    let e0 : get_or (part a n l) k 0 ≡ get_or l (a + k) 0 = get_or_part a n l k (omega arith) in
    let e1 : get_or (part a n l) (k + 1) 0 ≡ get_or l (a + k + 1) 0 = get_or_part a n l (k + 1) (omega arith) ∙ ap (λ (m : ℕ). get_or l m 0) (sym (add_assoc a k 1)) in
    let e2 : get_or (part a n l) (k + 2) 0 ≡ get_or l (a + k + 2) 0 = get_or_part a n l (k + 2) (omega arith) ∙ ap (λ (m : ℕ). get_or l m 0) (sym (add_assoc a k 2)) in
    let e3 : get_or (part a n l) (k + 3) 0 ≡ get_or l (a + k + 3) 0 = get_or_part a n l (k + 3) (omega arith) ∙ ap (λ (m : ℕ). get_or l m 0) (sym (add_assoc a k 3)) in
    omega arith

-- two buffers that agree on four bytes agree on the number
pub num4_same : (l m : List ℕ) (a : ℕ) → part a 4 l ≡ part a 4 m → num4 l a ≡ num4 m a
num4_same l m a e =
    let p : num4 (part a 4 l) 0 ≡ num4 l (a + 0) = num4_part a 4 l 0 (omega arith) in
    let q : num4 (part a 4 m) 0 ≡ num4 m (a + 0) = num4_part a 4 m 0 (omega arith) in
    rw add-zero at (sym p ∙ ap (λ (x : List ℕ). num4 x 0) e ∙ q)

-- what was written is read back
pub num4_le4 : (v : ℕ) → v < 2 ^ 32 → num4 (le4 v) 0 ≡ v
unfolding le4 num4
num4_le4 v h = omega arith

-- a number at an index
pub num_at : (l : List ℕ) (j : ℕ) → num4 (part j 4 l) 0 ≡ num4 l j
num_at l j = rw add-zero at (num4_part j 4 l 0 (omega arith))

module _ {l m : List ℕ} {a k : ℕ} {s : List ℕ} (p : Write l m a k s) where
  pub num_within : (j i : ℕ) → j ≡ a + i → i + 4 ≤ k → num4 m j ≡ num4 s i
  num_within j i e h = sym (num_at m j) ∙ ap (λ (z : List ℕ). num4 z 0) (within p j i 4 e h) ∙ num_at s i

  pub num_before : (j : ℕ) → j + 4 ≤ a → num4 m j ≡ num4 l j
  num_before j h = num4_same m l j (before p j 4 h)

  pub num_after : (j : ℕ) → a + k ≤ j → j + 4 ≤ length l → num4 m j ≡ num4 l j
  num_after j h q = num4_same m l j (after p j 4 h q)
