-- Keys are equal where names are equivalent: "Lookups go by equivalence." Their order is the folded order.
-- Assumes nothing.
use Prim.Native.Nat.{ℕ, ◌≤◌, ◌<◌}
use mathlib.Core.Path.{◌≡◌, refl, ap, ap₂, sym, ◌∙◌}
use mathlib.Core.Bool.{Bool, true, false, ◌&&◌, cond}
use mathlib.Core.List.{[], ◌∷◌}
use native.Mathlib.Omega.{arith}
use lib.Dec.{ltb, eqb}
use borrow.Author.Tests.{ltb-true, ltb-false, eq-eqb, ne_eqb}
use Rattle.chars.specs.Lists.{same}
use Rattle.chars.specs.Folding.{fold, equivalent, order, folded_order}
use Rattle.std.specs.declared.cmp.Ordering.{Ordering}
use Rattle.std.specs.declared.cmp.Ordering.TheVariants.{Less, Equal, Greater}
use Rattle.base.proofs.Bools.{and_right_true}
use Rattle.chars.proofs.Orders.{less_equal, less_greater}
use Rattle.model.specs.Sets.{Bytes, Key, then_by, key_order, is_equal, same_key}
use Rattle.model.specs.Fields.{prefix_of, suffix_of}
use Rattle.model.specs.Package.{rank, item_key, name_key, relationship_key}

-- the comparison of two numbers
abbrev pub number_order : ℕ → ℕ → Ordering
number_order m n = cond (ltb m n) Less (cond (ltb n m) Greater Equal)

pub number_less : (m n : ℕ) → number_order m n ≡ Less → m < n
number_less m n e = go (ltb m n) refl (ltb n m) e
  where
    go : (b : Bool) → ltb m n ≡ b → (c : Bool) → cond b Less (cond c Greater Equal) ≡ Less → m < n
    go true f c h = ltb-true m n f
    go false f true h = absurd (less_greater (sym h))
    go false f false h = absurd (less_equal (sym h))

pub order_same : (a b : Bytes) → is_equal (order a b) ≡ same a b
unfolding order same
order_same [] [] = refl
order_same [] (y ∷ b) = refl
order_same (x ∷ a) [] = refl
order_same (x ∷ a) (y ∷ b) = go (ltb x y) refl (ltb y x) refl (order_same a b)
  where
    go : (p : Bool) → ltb x y ≡ p → (q : Bool) → ltb y x ≡ q → is_equal (order a b) ≡ same a b →
        is_equal (cond p Less (cond q Greater (order a b))) ≡ eqb x y && same a b
    go true e q f h = let l : x < y = ltb-true x y e in rw (ne_eqb x y (omega arith))
    go false e true f h = let l : y < x = ltb-true y x f in rw (ne_eqb x y (omega arith))
    go false e false f h =
        let l : y ≤ x = ltb-false x y e in
        let m : x ≤ y = ltb-false y x f in
        rw (eq-eqb x y (omega arith)) h

same_key_lem : (a b : Key) → same_key a b ≡ same a.0 b.0 && same a.1 b.1
unfolding key_order then_by
same_key_lem a b = both (order a.0 b.0) (order a.1 b.1) ∙ ap₂ ◌&&◌ (order_same a.0 b.0) (order_same a.1 b.1)
  where
    both : (o q : Ordering) → is_equal (then_by o q) ≡ is_equal o && is_equal q
    both Less q = refl
    both Equal q = refl
    both Greater q = refl

pub same_name_key : (s t : Bytes) → same_key (name_key s) (name_key t) ≡ equivalent s t
unfolding equivalent same
same_name_key s t = same_key_lem (name_key s) (name_key t) ∙ and_right_true (same (fold s) (fold t))

pub same_item_key : (s t : Bytes) → same_key (item_key s) (item_key t)
    ≡ equivalent (prefix_of s) (prefix_of t) && eqb (rank (suffix_of s)) (rank (suffix_of t))
unfolding equivalent same
same_item_key s t =
    same_key_lem (item_key s) (item_key t)
    ∙ ap (λ (b : Bool). same (fold (prefix_of s)) (fold (prefix_of t)) && b)
    (and_right_true (eqb (rank (suffix_of s)) (rank (suffix_of t))))

pub same_relationship_key : (s i t j : Bytes) → same_key (relationship_key s i) (relationship_key t j) ≡ equivalent s t && same i j
unfolding equivalent
same_relationship_key s i t j = same_key_lem (relationship_key s i) (relationship_key t j)

-- the order of keys, by the comparison of folded names
pub name_key_order : (s t : Bytes) → key_order (name_key s) (name_key t) ≡ folded_order s t
unfolding key_order then_by folded_order order
name_key_order s t = go (order (fold s) (fold t))
  where
    go : (o : Ordering) → then_by o Equal ≡ o
    go Less = refl
    go Equal = refl
    go Greater = refl

pub item_key_order : (s t : Bytes) → key_order (item_key s) (item_key t)
    ≡ then_by (folded_order (prefix_of s) (prefix_of t)) (number_order (rank (suffix_of s)) (rank (suffix_of t)))
unfolding key_order folded_order order
item_key_order s t = refl

pub relationship_key_order : (s i t j : Bytes) → key_order (relationship_key s i) (relationship_key t j) ≡ then_by (folded_order s t) (order i j)
unfolding key_order folded_order
relationship_key_order s i t j = refl
