-- Texts compared byte by byte, as the library compares them.
-- Assumes nothing.
use Prim.Native.Nat.{ℕ, ◌<◌, suc}
use mathlib.Core.Path.{◌≡◌, refl, ap, ◌∙◌}
use mathlib.Core.Bool.{false, Bool, ◌&&◌, true}
use mathlib.Core.List.{List, [], ◌∷◌}
use native.Mathlib.Omega.{arith}
use lib.Dec.{eqb}
use lib.ListN.{length, take}
use lib.Seq.{take_all}
use lib.Pointwise.{pointwise}
use Rattle.std.specs.Prelude.{nat_eq}
use Rattle.std.proofs.lemmas.Cmp.{nat_list_eq_equiv}
use Rattle.chars.specs.Lists.{same, begins}

pub pointwise_same : (a b : List ℕ) → pointwise nat_eq a b ≡ same a b
unfolding same
pointwise_same [] [] = refl
pointwise_same [] (y ∷ b) = refl
pointwise_same (x ∷ a) [] = refl
pointwise_same (x ∷ a) (y ∷ b) = ap (λ (t : Bool). eqb x y && t) (pointwise_same a b)

pub starts_begins : (t s : List ℕ) → pointwise nat_eq t (take (length t) s) ≡ begins t s
unfolding begins
starts_begins t s = nat_list_eq_equiv.symm t (take (length t) s) ∙ pointwise_same (take (length t) s) t

pub same_lengths : (a b : List ℕ) → (length a ≡ length b → ⊥) → same a b ≡ false
unfolding same
same_lengths [] [] h = absurd (h refl)
same_lengths [] (y ∷ b) h = refl
same_lengths (x ∷ a) [] h = refl
same_lengths (x ∷ a) (y ∷ b) h = go (eqb x y) (same_lengths a b (λ e. h (ap suc e)))
  where
    go : (q : Bool) → same a b ≡ false → (q && same a b) ≡ false
    go true e = e
    go false e = refl

pub begins_short : (t s : List ℕ) → length s < length t → begins t s ≡ false
unfolding begins
begins_short t s h = ap (λ (l : List ℕ). same l t) (take_all (length t) s (omega arith)) ∙ same_lengths s t (λ e. omega arith)
