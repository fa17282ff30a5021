-- What has passed through standard input or standard output.
-- Assumes nothing.
use Rattle.std.specs.Prelude.{◌≡◌, ℕ, ◌+◌, ◌%◌, ◌^◌, [], ◌++◌, length, refl}
use Rattle.std.proofs.Common.{arith, length-append}
use Rattle.model.specs.Sets.{Bytes}

-- s has passed through a stream since the program began: n bytes, counted modulo 2^64. No contract can say which bytes a call of `read` or `write` moves;
-- so `read_some` and `print`, which alone make these calls, promise that bytes have passed, and count them. The field is private to this file: elsewhere no
-- proof can take one text for another of its length.
pub record Passed (n : ℕ) (s : Bytes) : Type 0 where
  counted : n ≡ length s % 2 ^ 64

pub passed_none : Passed 0 []
passed_none = record { counted = refl }

-- THE PROMISE of `read_some` and `print`: t passes, behind all that has passed before
pub record Passes (n : ℕ) (t : Bytes) (n' : ℕ) : Type 0 where
  pub after : (s : Bytes) → Passed n s → Passed n' (s ++ t)

pub passes_counted : (n : ℕ) (t : Bytes) (k n' : ℕ) → k ≡ length t → n' ≡ (n + k) % 2 ^ 64 → Passes n t n'
passes_counted n t k n' h e = record { after = λ s g. record { counted = omega (arith, g.counted, length-append s t) } }
