-- Texts that begin alike stand side by side in their order.
-- Assumes nothing.
use Prim.Native.Nat.{ℕ}
use mathlib.Core.Path.{◌≡◌, refl, sym}
use mathlib.Core.Bool.{Bool, true, false, ◌&&◌, cond}
use mathlib.Core.List.{List, [], ◌∷◌}
use native.Mathlib.Omega.{arith}
use lib.Dec.{ltb, eqb}
use lib.ListN.{length, take}
use borrow.Author.Tests.{ltb-false, eqb-true, eq-eqb}
use Rattle.chars.specs.Lists.{same, begins}
use Rattle.chars.specs.Folding.{order}
use Rattle.std.specs.declared.cmp.Ordering.TheVariants.{Less, Greater}
use Rattle.base.proofs.Bools.{and_left, and_right, and_true}
use Rattle.chars.proofs.Orders.{less_greater}

-- between t and a text that begins with t, all begin with t
pub begins_between : (t a b : List ℕ) → (order a t ≡ Less → ⊥) → order a b ≡ Less → begins t b ≡ true → begins t a ≡ true
unfolding order begins same
begins_between [] a b h l e = refl
begins_between (x ∷ t) [] b h l e = absurd (h refl)
begins_between (x ∷ t) (y ∷ a) [] h l e = absurd (less_greater (sym l))
begins_between (x ∷ t) (y ∷ a) (z ∷ b) h l e =
    let f : z ≡ x = eqb-true z x (and_left (eqb z x) (same (take (length t) b) t) e) in
    go (ltb y x) refl (ltb x y) refl h (rw f at l) (λ h l. begins_between t a b h l (and_right (eqb z x) (same (take (length t) b) t) e))
  where
    go :
        (p : Bool) → ltb y x ≡ p → (q : Bool) → ltb x y ≡ q → (cond p Less (cond q Greater (order a t)) ≡ Less → ⊥) →
        cond p Less (cond q Greater (order a b)) ≡ Less →
        ((order a t ≡ Less → ⊥) → order a b ≡ Less → same (take (length t) a) t ≡ true) → (eqb y x && same (take (length t) a) t) ≡ true
    go true i q j h l ih = absurd (h refl)
    go false i true j h l ih = absurd (less_greater (sym l))
    go false i false j h l ih =
        and_true (eqb y x) (same (take (length t) a) t) (eq-eqb y x (omega (arith, ltb-false y x i, ltb-false x y j))) (ih h l)
