-- A case by a test.
-- Assumes nothing.
use Prim.Native.Nat.{ℕ}
use mathlib.Core.Path.{◌≡◌, refl, subst, sym}
use mathlib.Core.Bool.{Bool, true, false}
use lib.Dec.{eqb}
use borrow.Author.Tests.{eqb-true, eqb-false}

-- what holds at k, and at b where b is not k, holds at b
pub by_value : (P : ℕ → Type 0) (b k : ℕ) → P k → ((b ≡ k → ⊥) → P b) → P b
by_value P b k y n = go (eqb b k) refl
  where
    go : (q : Bool) → eqb b k ≡ q → P b
    go true e = subst P (sym (eqb-true b k e)) y
    go false e = n (eqb-false b k e)
