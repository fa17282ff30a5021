-- Numbers of eight bytes, the low byte first.
-- Assumes nothing.
use Rattle.std.specs.Prelude.{ℕ, ◌+◌, ◌*◌, ◌/◌, ◌%◌, ◌^◌, ◌++◌}
use Rattle.model.specs.Sets.{Bytes}
use Rattle.store.specs.Buffer.{num4, le4}

-- the number in the eight bytes of l from index a on
abbrev pub num8 : Bytes → ℕ → ℕ
num8 l a = num4 l a + 2 ^ 32 * num4 l (a + 4)

-- the eight bytes of v
unfoldable pub le8 : ℕ → Bytes
le8 v = le4 (v % 2 ^ 32) ++ le4 (v / 2 ^ 32)
