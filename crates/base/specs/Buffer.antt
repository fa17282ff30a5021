-- A buffer is read by its parts and written by splices.
-- Assumes nothing.
use Rattle.std.specs.Prelude.{ℕ, ◌+◌, List, ◌++◌, length, take, drop}

-- the n bytes of l from index a on
unfoldable pub part : ℕ → ℕ → List ℕ → List ℕ
part a n l = take n (drop a l)

-- l with s in the place of as many of its bytes from index a on
unfoldable pub splice : List ℕ → ℕ → List ℕ → List ℕ
splice l a s = take a l ++ s ++ drop (a + length s) l
