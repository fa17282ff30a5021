-- The scan for the row whose bytes begin lowest at or above c.
-- Assumes nothing.
use mathlib.Core.Path.{◌≡◌, refl}
use mathlib.Core.Bool.{Bool, true, false}
use mathlib.Core.Logic.{◌⊎◌, inl, inr, ⊎_elim}
use Prim.Native.Nat.{ℕ, ◌+◌, ◌≤◌, ◌<◌, ◌^◌}
use mathlib.Core.List.{List}
use native.Mathlib.Omega.{arith}
use lib.Dec.{ltb}
use borrow.Author.Tests.{ltb-true, ltb-false}
use Rattle.store.specs.Layout.{slot_of, off_of}

-- what is known once i slots are scanned: least is above every offset, or that of slot r
pub record Scanned (b : List ℕ) (n c i r least : ℕ) : Type 0 where
  pub best : ((r ≡ n) × (2 ^ 32 ≤ least)) ⊎ ((r < i) × (least ≡ off_of (slot_of b r)) × (c ≤ least))
  pub none : (j : ℕ) → j < i → c ≤ off_of (slot_of b j) → (least ≤ off_of (slot_of b j)) × (least < 2 ^ 32)

pub below_or_not : (j i : ℕ) → (j < i) ⊎ (i ≤ j)
below_or_not j i = go (ltb j i) refl
  where
    go : (t : Bool) → ltb j i ≡ t → (j < i) ⊎ (i ≤ j)
    go true e = inl (ltb-true j i e)
    go false e = inr (ltb-false j i e)

-- j is below i + 1: below i, or i
pub last : (j i : ℕ) → j < i + 1 → (j < i) ⊎ (j ≡ i)
last j i h = ⊎_elim (λ q. inl q) (λ q. inr (omega arith)) (below_or_not j i)
