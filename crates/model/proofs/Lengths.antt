-- How long a text is that is quoted.
-- Assumes nothing.
use Prim.Native.Nat.{suc, ◌*◌, ◌≤◌}
use mathlib.Core.Bool.{Bool, true, false, cond}
use mathlib.Core.List.{[], ◌∷◌, ◌++◌, flat_map}
use native.Mathlib.Omega.{arith}
use lib.Dec.{eqb}
use lib.ListN.{length}
use Rattle.chars.specs.Bytes.{ascii}
use Rattle.model.specs.Sets.{Bytes}
use Rattle.model.specs.Texts.{ampersand, quoted_byte, quoted}

pub quoted_length : (s : Bytes) → length (quoted s) ≤ 5 * length s
unfolding quoted flat_map
quoted_length [] = omega arith
quoted_length (b ∷ s) = go (eqb b ampersand) (quoted_length s)
  where
    go : (t : Bool) → length (flat_map quoted_byte s) ≤ 5 * length s →
        length (cond t (ascii "&amp;") (b ∷ []) ++ flat_map quoted_byte s) ≤ 5 * suc (length s)
    go true h = omega arith
    go false h = omega arith
