-- What every call but start asks of the lent bytes before all else.
-- Assumes nothing.
use Rattle.std.specs.Prelude.{ℕ, ◌≡◌, true, not, List}
use Rattle.model.specs.Fields.{when}
use Rattle.store.specs.Packages.{Shape, is_package}

-- by which number the bytes are turned away, 0 for none: "Answer 1 is decided by a written test of the bytes"
unfoldable pub turned_number : List ℕ → ℕ
turned_number b = when (not (is_package b)) 1

-- the bytes are let in: they pass the test, and every access to them is safe
pub record Open (b : List ℕ) : Type 0 where
  pub tested : is_package b ≡ true
  pub shape : Shape b
