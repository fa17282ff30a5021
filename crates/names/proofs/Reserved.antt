-- A reserved name, from what the judges of its last two segments ensure.
-- Assumes nothing.
use mathlib.Core.Path.{◌≡◌}
use mathlib.Core.Bool.{Bool, false, ◌&&◌}
use mathlib.Core.List.{List}
use Prim.Native.Nat.{ℕ, ◌-◌, ◌≤◌}
use native.Mathlib.Omega.{arith}
use lib.ListN.{length, take, drop}
use lib.Seq.{length-take-le}
use Rattle.chars.specs.Bytes.{ascii, slash}
use Rattle.chars.specs.Lists.{same, after_last}
use Rattle.chars.specs.Folding.{equivalent, ends_in}
use Rattle.base.proofs.Lists.{take_rest, drop_take}
use Rattle.chars.proofs.Searches.{last_le}
use Rattle.names.specs.Names.{reserved}

module _ (s : List ℕ) (p : ℕ) (here : p ≡ after_last slash s) where
  pub reserved_none : p ≡ 0 → reserved s ≡ false
  unfolding reserved after_last equivalent same
  reserved_none z = rw (← here, z)

  module _ (q : ℕ) (second : q ≡ after_last slash (take (p - 1) s)) where
    pub second_le : q ≤ p - 1
    second_le =
        let l : length (take (p - 1) s) ≡ p - 1 = length-take-le (p - 1) s (omega (arith, last_le slash s)) in
        omega (arith, last_le slash (take (p - 1) s))

    pub reserved_is : (r e : Bool) → r ≡ equivalent (take (p - 1 - q) (drop q s)) (ascii "_rels") → e ≡ ends_in (ascii ".rels") (take (length s - p) (drop p s))
        → reserved s ≡ r && e
    unfolding reserved
    reserved_is r e f g = rw (f, g, ← here, ← second, drop_take q (p - 1) s, take_rest s p)
