-- A sum over the first n indices: one term raised, and the size of all rows.
-- Assumes nothing.
use mathlib.Core.Path.{◌≡◌, refl}
use Prim.Native.Nat.{ℕ, zero, suc, ◌+◌, ◌<◌}
use native.Mathlib.Omega.{arith}
use Rattle.store.specs.Rows.{Row, tabulate, total, row_size}

unfoldable pub sum : ℕ → (ℕ → ℕ) → ℕ
sum zero f = 0
sum (suc n) f = f zero + sum n (λ k. f (suc k))

pub sum_same : (n : ℕ) (f g : ℕ → ℕ) → ((i : ℕ) → i < n → g i ≡ f i) → sum n g ≡ sum n f
unfolding sum
sum_same zero f g e = refl
sum_same (suc n) f g e =
    let a = e zero (omega arith) in
    let b = sum_same n (λ k. f (suc k)) (λ k. g (suc k)) (λ i h. e (suc i) (omega arith)) in
    omega arith

pub sum_zero : (n : ℕ) (f : ℕ → ℕ) → ((i : ℕ) → i < n → f i ≡ 0) → sum n f ≡ 0
unfolding sum
sum_zero zero f e = refl
sum_zero (suc n) f e =
    let a = e zero (omega arith) in
    let b = sum_zero n (λ k. f (suc k)) (λ i h. e (suc i) (omega arith)) in
    omega arith

pub sum_raise : (r n k : ℕ) (f g : ℕ → ℕ) → r < n → ((i : ℕ) → i < n → (i ≡ r → ⊥) → g i ≡ f i) → g r ≡ f r + k → sum n g ≡ sum n f + k
unfolding sum
sum_raise r zero k f g h e a = absurd (omega arith)
sum_raise zero (suc n) k f g h e a =
    let b = sum_same n (λ k. f (suc k)) (λ k. g (suc k)) (λ i q. e (suc i) (omega arith) (λ z. omega arith)) in
    omega arith
sum_raise (suc r) (suc n) k f g h e a =
    let b = e zero (omega arith) (λ z. omega arith) in
    let d = sum_raise r n k (λ k. f (suc k)) (λ k. g (suc k)) (omega arith) (λ i q z. e (suc i) (omega arith) (λ w. z (omega arith))) a in
    omega arith

pub total_sum : (n : ℕ) (f : ℕ → Row) → total (tabulate n f) ≡ sum n (λ i. row_size (f i))
unfolding sum total tabulate
total_sum zero f = refl
total_sum (suc n) f = let e = total_sum n (λ k. f (suc k)) in omega arith
