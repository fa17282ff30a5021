-- A walk over a list, unit by unit, is `tiled`: the laws that a loop with the position i cites.
-- Assumes nothing.
use mathlib.Core.Path.{◌≡◌, refl, ap, ◌∙◌}
use mathlib.Core.Bool.{true, false}
use mathlib.Core.List.{List, [], ◌∷◌}
use Prim.Native.Nat.{ℕ, zero, suc, ◌+◌, ◌≤◌, ◌<◌}
use native.Mathlib.Nat.{le_of_suc-le-suc, not-suc-le-zero}
use native.Mathlib.Omega.{arith}
use lib.Dec.{eqb-suc-zero}
use lib.ListN.{length, drop, length-drop, drop_of_length-le}
use lib.Seq.{drop-drop}
use Rattle.chars.specs.Lists.{tiled}

module _ (u : List ℕ → ℕ) where
  -- the bytes that are still to come are skipped
  skip : (k : ℕ) (s : List ℕ) → k ≤ length s → tiled u k s ≡ tiled u 0 (drop k s)
  unfolding tiled
  skip zero s h = refl
  skip (suc k) [] h = absurd (not-suc-le-zero h)
  skip (suc k) (b ∷ s) h = skip k s (le_of_suc-le-suc h)

  next : (s : List ℕ) (n : ℕ) → u s ≡ n → (n ≡ 0 → ⊥) → n ≤ length s → tiled u 0 s ≡ tiled u 0 (drop n s)
  unfolding tiled
  next s zero e z h = absurd (z refl)
  next [] (suc n) e z h = absurd (not-suc-le-zero h)
  next (b ∷ s) (suc n) e z h = rw (e, eqb-suc-zero n) (skip n s (le_of_suc-le-suc h))

  none : (s : List ℕ) → 0 < length s → u s ≡ 0 → tiled u 0 s ≡ false
  unfolding tiled
  none [] h e = absurd (not-suc-le-zero h)
  none (b ∷ s) h e = rw e

  -- at the position i: a unit of n bytes, no unit, the end
  pub tiled_step : (s : List ℕ) (i n : ℕ) → u (drop i s) ≡ n → (n ≡ 0 → ⊥) → i + n ≤ length s → tiled u 0 (drop i s) ≡ tiled u 0 (drop (i + n) s)
  tiled_step s i n e z h = next (drop i s) n e z (simp length-drop (omega arith)) ∙ ap (tiled u 0) (drop-drop n i s)

  pub tiled_stop : (s : List ℕ) (i : ℕ) → i < length s → u (drop i s) ≡ 0 → tiled u 0 (drop i s) ≡ false
  tiled_stop s i h e = none (drop i s) (simp length-drop (omega arith)) e

  pub tiled_end : (s : List ℕ) (i : ℕ) → length s ≤ i → tiled u 0 (drop i s) ≡ true
  unfolding tiled
  tiled_end s i h = ap (tiled u 0) (drop_of_length-le s h)
