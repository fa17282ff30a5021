-- A copy of no bytes.
-- Assumes nothing.
use mathlib.Core.Path.{◌≡◌}
use Prim.Native.Nat.{ℕ}
use mathlib.Core.List.{List, []}
use lib.Seq.{paste-zero}
use Rattle.base.specs.Buffer.{splice}

pub splice_nil : (l : List ℕ) (a : ℕ) → l ≡ splice l a []
unfolding splice
splice_nil l a = paste-zero l a []
