-- The numbers in a buffer are little-endian.
-- Assumes nothing.
use Rattle.std.specs.Prelude.{ℕ, ◌+◌, ◌*◌, ◌/◌, ◌%◌, List, [], ◌∷◌, get_or}

-- the little-endian number in the four bytes of l from index a on
unfoldable pub num4 : List ℕ → ℕ → ℕ
num4 l a = get_or l a 0 + 256 * get_or l (a + 1) 0 + 65536 * get_or l (a + 2) 0 + 16777216 * get_or l (a + 3) 0

-- the four bytes of v
unfoldable pub le4 : ℕ → List ℕ
le4 v = (v % 256) ∷ (v / 256 % 256) ∷ (v / 256 / 256 % 256) ∷ (v / 256 / 256 / 256 % 256) ∷ []
