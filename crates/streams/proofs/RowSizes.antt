-- The bytes of a run of rows, and of all: in a sound buffer a run has no more than all rows use.
-- Assumes nothing.
use Prim.Native.Nat.{ℕ, zero, suc, ◌+◌, ◌-◌, ◌^◌, ◌≤◌, ◌<◌}
use mathlib.Core.Path.{◌≡◌, refl, ap, sym, ◌∙◌}
use mathlib.Core.Bool.{Bool, true, false}
use mathlib.Core.List.{List}
use native.Mathlib.Nat.{zero-add}
use native.Mathlib.Omega.{arith}
use native.Mathlib.Numerals.{add-one}
use lib.Dec.{leb}
use borrow.Author.Tests.{leb-true, leb-false}
use Rattle.store.specs.Layout.{count_of, used_of}
use Rattle.store.specs.Rows.{row_at, row_size, size_at}
use Rattle.store.specs.Packages.{Sound}
use Rattle.store.proofs.Sums.{sum, sum_same, total_sum}
use Rattle.store.proofs.RowPlaces.{row_sized}
use Rattle.streams.specs.Streams.{sizes_of, run_size, Summing}

-- A SOUND BUFFER
sum_last : (n : ℕ) (f : ℕ → ℕ) → sum (suc n) f ≡ sum n f + f n
unfolding sum
sum_last zero f = omega arith
sum_last (suc n) f = let e = sum_last n (λ k. f (suc k)) in omega arith

sizes_sum : (b : List ℕ) (n : ℕ) → sizes_of b n ≡ sum n (λ i. size_at b i)
unfolding sizes_of sum
sizes_sum b zero = refl
sizes_sum b (suc n) = omega (arith, sizes_sum b n, sum_last n (λ i. size_at b i))

-- k rows more have no fewer bytes
sizes_more : (b : List ℕ) (n k : ℕ) → sizes_of b n ≤ sizes_of b (k + n)
unfolding sizes_of
sizes_more b n zero = rw zero-add (omega arith)
sizes_more b n (suc k) = let e : suc k + n ≡ suc (k + n) = omega arith in rw e (omega (arith, sizes_more b n k))

sizes_le : (b : List ℕ) (m n : ℕ) → m ≤ n → sizes_of b m ≤ sizes_of b n
sizes_le b m n l = let e : n - m + m ≡ n = omega arith in rw (← e) (sizes_more b m (n - m))

-- all rows together have the bytes in use
sizes_used : (b : List ℕ) → Sound b → sizes_of b (count_of b) ≡ used_of b
sizes_used b so =
    sizes_sum b (count_of b)
    ∙ sum_same (count_of b) (λ i. row_size (row_at b i)) (λ i. size_at b i) (λ i l. sym (row_sized b so i l))
    ∙ sym (total_sum (count_of b) (row_at b))
    ∙ so.exact

pub run_used : (b : List ℕ) (f t : ℕ) → Sound b → t ≤ count_of b → run_size b f t ≤ used_of b
run_used b f t so l = omega (arith, sizes_le b t (count_of b) l, sizes_used b so)

-- THE WALK
module _ (b : List ℕ) (f t : ℕ) where
  one_more : (i : ℕ) → sizes_of b (i + 1) ≡ sizes_of b i + size_at b i
  unfolding sizes_of
  one_more i = ap (sizes_of b) (add-one i)

  pub summing_begin : Summing b f t f 0
  summing_begin = record { low = omega arith; high = omega arith; few = omega arith; is = omega arith }

  module _ (i n : ℕ) (w : Summing b f t i n) where
    -- row i has k bytes
    pub summing_more : i < t → (k : ℕ) → k ≡ size_at b i → k < 2 ^ 34 → Summing b f t (i + 1) (n + k)
    summing_more l k e m = record { low = omega (arith, w.low); high = omega (arith, w.low); few = omega (arith, w.few); is = omega (arith, w.is, one_more i, e) }

    pub summed : t ≤ i → n ≡ run_size b f t
    summed l = go (leb i t) refl
      where
        go : (z : Bool) → leb i t ≡ z → n ≡ run_size b f t
        go true e = let q : i ≡ t = omega (arith, leb-true i t e) in omega (arith, w.is, ap (sizes_of b) q)
        go false e = let q : i ≡ f = omega (arith, leb-false i t e, w.low, w.high) in omega (arith, w.is, ap (sizes_of b) q, sizes_le b t i l)
