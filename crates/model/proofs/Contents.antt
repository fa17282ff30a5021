-- A joined content, read piece by piece.
-- Assumes nothing.
use Prim.Native.Nat.{ℕ, zero, suc, ◌-◌}
use mathlib.Core.Path.{◌≡◌, ap, ◌∙◌}
use mathlib.Core.List.{List, [], ◌∷◌, ◌++◌}
use native.Mathlib.Omega.{arith}
use lib.ListN.{length, take, drop}

module _ {E : Type 0} where
  drop_append : (o : ℕ) (a b : List E) → drop o (a ++ b) ≡ drop o a ++ drop (o - length a) b
  drop_append zero a b = ap (λ (n : ℕ). a ++ drop n b) zero_less
    where
      zero_less : 0 ≡ 0 - length a
      zero_less = omega arith
  drop_append (suc o) [] b = ap (λ (n : ℕ). drop n b) less_zero
    where
      less_zero : suc o ≡ suc o - 0
      less_zero = omega arith
  drop_append (suc o) (x ∷ a) b = drop_append o a b ∙ ap (λ (n : ℕ). drop o a ++ drop n b) less_both
    where
      less_both : o - length a ≡ suc o - suc (length a)
      less_both = omega arith

  take_append : (r : ℕ) (a b : List E) → take r (a ++ b) ≡ take r a ++ take (r - length a) b
  take_append zero a b = ap (λ (n : ℕ). take n b) zero_less
    where
      zero_less : 0 ≡ 0 - length a
      zero_less = omega arith
  take_append (suc r) [] b = ap (λ (n : ℕ). take n b) less_zero
    where
      less_zero : suc r ≡ suc r - 0
      less_zero = omega arith
  take_append (suc r) (x ∷ a) b = ap (λ (l : List E). x ∷ l) (take_append r a b ∙ ap (λ (n : ℕ). take r a ++ take n b) less_both)
    where
      less_both : r - length a ≡ suc r - suc (length a)
      less_both = omega arith

  -- what is read of a content that begins with a piece: of the piece, then of the rest
  pub read_piece :
      (room offset : ℕ) (piece rest : List E) →
      take room (drop offset (piece ++ rest)) ≡ take room (drop offset piece) ++ take (room - length (drop offset piece))
      (drop (offset - length piece) rest)
  read_piece room offset piece rest = ap (take room) (drop_append offset piece rest)
      ∙ take_append room (drop offset piece) (drop (offset - length piece) rest)
