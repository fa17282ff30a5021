-- Equivalence is an equivalence relation. Folded order is total, antisymmetric up to equivalence, and transitive.
-- Assumes nothing.
use Prim.Native.Nat.{ℕ}
use mathlib.Core.Path.{◌≡◌, refl, ap₂, sym, ◌∙◌}
use mathlib.Core.Bool.{Bool, true, false, ◌&&◌, false≢true}
use mathlib.Core.List.{List, [], ◌∷◌}
use lib.Dec.{eqb}
use borrow.Author.Tests.{eqb-true, eq-eqb}
use Rattle.chars.specs.Lists.{same}
use Rattle.chars.specs.Folding.{fold, equivalent, folded_order}
use Rattle.std.specs.declared.cmp.Ordering.TheVariants.{Less, Equal, Greater}
use Rattle.chars.proofs.Orders.{order_refl, order_equal, order_less, order_greater, order_trans}

pub same_eq : (a b : List ℕ) → same a b ≡ true → a ≡ b
unfolding same
same_eq [] [] e = refl
same_eq [] (y ∷ b) e = absurd (false≢true e)
same_eq (x ∷ a) [] e = absurd (false≢true e)
same_eq (x ∷ a) (y ∷ b) e = go (eqb x y) refl e (same_eq a b)
  where
    go : (p : Bool) → eqb x y ≡ p → (p && same a b) ≡ true → (same a b ≡ true → a ≡ b) → (x ∷ a) ≡ (y ∷ b)
    go true e h k = ap₂ ◌∷◌ (eqb-true x y e) (k h)
    go false e h k = absurd (false≢true h)

pub same_refl : (a : List ℕ) → same a a ≡ true
unfolding same
same_refl [] = refl
same_refl (x ∷ a) = rw (eq-eqb x x refl) (same_refl a)

pub eq_same : (a b : List ℕ) → a ≡ b → same a b ≡ true
eq_same a b e = rw e (same_refl b)

pub equivalent_fold : (a b : List ℕ) → equivalent a b ≡ true → fold a ≡ fold b
unfolding equivalent
equivalent_fold a b e = same_eq (fold a) (fold b) e

pub fold_equivalent : (a b : List ℕ) → fold a ≡ fold b → equivalent a b ≡ true
unfolding equivalent
fold_equivalent a b e = eq_same (fold a) (fold b) e

pub equivalent_refl : (a : List ℕ) → equivalent a a ≡ true
equivalent_refl a = fold_equivalent a a refl

pub equivalent_sym : (a b : List ℕ) → equivalent a b ≡ true → equivalent b a ≡ true
equivalent_sym a b e = fold_equivalent b a (sym (equivalent_fold a b e))

pub equivalent_trans : (a b c : List ℕ) → equivalent a b ≡ true → equivalent b c ≡ true → equivalent a c ≡ true
equivalent_trans a b c e f = fold_equivalent a c (equivalent_fold a b e ∙ equivalent_fold b c f)

-- total: of the three answers, the two that tell texts apart turn round with the texts
pub folded_less : (a b : List ℕ) → folded_order a b ≡ Less → folded_order b a ≡ Greater
unfolding folded_order
folded_less a b e = order_less (fold a) (fold b) e

pub folded_greater : (a b : List ℕ) → folded_order a b ≡ Greater → folded_order b a ≡ Less
unfolding folded_order
folded_greater a b e = order_greater (fold a) (fold b) e

-- the third is given to equivalent texts, and to no others
pub folded_equal : (a b : List ℕ) → folded_order a b ≡ Equal → equivalent a b ≡ true
unfolding folded_order
folded_equal a b e = fold_equivalent a b (order_equal (fold a) (fold b) e)

pub equivalent_equal : (a b : List ℕ) → equivalent a b ≡ true → folded_order a b ≡ Equal
unfolding folded_order
equivalent_equal a b e = rw (equivalent_fold a b e) (order_refl (fold b))

pub folded_trans : (a b c : List ℕ) → folded_order a b ≡ Less → folded_order b c ≡ Less → folded_order a c ≡ Less
unfolding folded_order
folded_trans a b c e f = order_trans (fold a) (fold b) (fold c) e f
