-- A number in columns, written from its last digit back.
-- Assumes nothing.
use Prim.Native.Nat.{ℕ, zero, suc, ◌+◌, ◌-◌, ◌/◌, ◌%◌, ◌≤◌, ◌<◌}
use mathlib.Core.Path.{◌≡◌, refl, ap, ◌∙◌}
use mathlib.Core.Bool.{Bool, true, false, cond}
use mathlib.Core.List.{[], ◌∷◌, ◌++◌, append_assoc}
use native.Mathlib.Omega.{arith}
use lib.Dec.{eqb, ltb}
use lib.ListN.{length, replicate, length-append}
use borrow.Author.Tests.{eq-eqb, ne_eqb, eqb-true, ltb-true, ltb-false}
use Rattle.names.specs.Numbers.{digits}
use Rattle.model.specs.Sets.{Bytes}
use Rattle.model.specs.Sheet.{space, column}
use Rattle.lines.specs.Printing.{padded, cell_of}

pub column_suc : (w n : ℕ) → column (suc w) n ≡ padded w (n / 10) ++ (48 + n % 10) ∷ []
unfolding digits padded
column_suc w n = go (ltb n 10) refl
  where
    go : (q : Bool) → ltb n 10 ≡ q
        → replicate (suc w - length (cond q ((48 + n) ∷ []) (digits w (n / 10) ++ (48 + n % 10) ∷ []))) space ++ cond q ((48 + n) ∷ []) (digits w (n / 10) ++ (48 + n % 10) ∷ [])
        ≡ cond (eqb (n / 10) 0) (replicate w space) (column w (n / 10)) ++ (48 + n % 10) ∷ []
    go true e =
        let l : n < 10 = ltb-true n 10 e in
        let z : n / 10 ≡ 0 = omega arith in
        let m : n % 10 ≡ n = omega arith in
        let k : suc w - 1 ≡ w = omega arith in
        rw (eq-eqb (n / 10) 0 z, m, k)
    go false e =
        let l : 10 ≤ n = ltb-false n 10 e in
        let d = digits w (n / 10) in
        let k : suc w - (length d + 1) ≡ w - length d = omega arith in
        rw (ne_eqb (n / 10) 0 (λ z. omega arith), length-append d ((48 + n % 10) ∷ []), k, append_assoc (replicate (w - length d) space) d ((48 + n % 10) ∷ []))

replicate_snoc : (w a : ℕ) → replicate (suc w) a ≡ replicate w a ++ a ∷ []
replicate_snoc zero a = refl
replicate_snoc (suc w) a = ap (λ (s : Bytes). a ∷ s) (replicate_snoc w a)

pub padded_suc : (w v : ℕ) → padded (suc w) v ≡ padded w (v / 10) ++ cell_of v ∷ []
unfolding padded
padded_suc w v = go (eqb v 0) refl
  where
    go : (q : Bool) → eqb v 0 ≡ q → cond q (replicate (suc w) space) (column (suc w) v) ≡ padded w (v / 10) ++ cond q space (48 + v % 10) ∷ []
    go true e =
        let z : v / 10 ≡ 0 = omega (arith, eqb-true v 0 e) in
        rw (eq-eqb (v / 10) 0 z, replicate_snoc w space)
    go false e = column_suc w v

pub padded_length : (w v : ℕ) → length (padded w v) ≡ w
unfolding padded digits
padded_length zero v = go (eqb v 0)
  where
    go : (q : Bool) → length (cond q (replicate 0 space) (column 0 v)) ≡ 0
    go true = refl
    go false = refl
padded_length (suc w) v = ap length (padded_suc w v) ∙ length-append (padded w (v / 10)) (cell_of v ∷ []) ∙ omega (arith, padded_length w (v / 10))

pub padded_none : (w v : ℕ) → w ≡ 0 → padded w v ≡ []
padded_none w v e = go (padded w v) (padded_length w v ∙ e)
  where
    go : (s : Bytes) → length s ≡ 0 → s ≡ []
    go [] h = refl
    go (x ∷ s) h = absurd (omega arith)

pub column_length : (w n : ℕ) → 0 < w → length (column w n) ≡ w
column_length zero n h = absurd (omega arith)
column_length (suc w) n h = ap length (column_suc w n) ∙ length-append (padded w (n / 10)) ((48 + n % 10) ∷ []) ∙ omega (arith, padded_length w (n / 10))
