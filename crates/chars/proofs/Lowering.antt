-- Folding is what the library does to a letter.
-- Assumes nothing.
use Prim.Native.Nat.{ℕ}
use mathlib.Core.Path.{◌≡◌}
use native.Mathlib.Omega.{arith}
use Rattle.std.proofs.lemmas.Bool.Decides.{nat_tests}
use Rattle.std.specs.Char.{to_ascii_lowercase}
use Rattle.chars.specs.Folding.{lower}

pub ascii_lower : (b : ℕ) → to_ascii_lowercase b ≡ lower b
unfolding lower
ascii_lower b = grind (arith, nat_tests)
