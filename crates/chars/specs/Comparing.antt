-- What the functions that compare bytes find. These are promises of inner functions.
-- Assumes nothing.
use Rattle.std.specs.Prelude.{ℕ, ◌≡◌, refl, Bool, List, map, take, drop}
use native.Mathlib.Omega.{arith}
use Rattle.std.proofs.lemmas.Bool.Decides.{nat_tests}
use Rattle.chars.specs.Lists.{same}
use Rattle.chars.specs.Folding.{lower}

-- a byte as it stands
abbrev pub as_is : ℕ → ℕ
as_is b = b

-- what is read of a byte folds as the byte does
abbrev pub FoldsAlike : (ℕ → ℕ) → Type 0
FoldsAlike read = (b : ℕ) → lower (read b) ≡ lower b

pub as_is_alike : FoldsAlike as_is
as_is_alike b = refl

pub lower_alike : FoldsAlike lower
unfolding lower
lower_alike b = grind (arith, nat_tests)

-- eight bytes of two texts, from index i on, are the same, those of the one read by f and those of the other by g
unfoldable pub same_eight : (ℕ → ℕ) → (ℕ → ℕ) → List ℕ → List ℕ → ℕ → Bool
same_eight f g a b i = same (map f (take 8 (drop i a))) (map g (take 8 (drop i b)))
