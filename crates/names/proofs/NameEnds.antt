-- A part name does not end with a slash.
-- Assumes nothing.
use Prim.Native.Nat.{ℕ, suc, ◌+◌}
use mathlib.Core.Path.{◌≡◌, refl, ap, sym, ◌∙◌}
use mathlib.Core.Bool.{Bool, true, false, ◌&&◌, cond, true≢false}
use mathlib.Core.List.{List, [], ◌∷◌, ◌++◌}
use native.Mathlib.Omega.{arith}
use lib.Dec.{leb, eqb}
use lib.ListN.{length}
use borrow.Author.Tests.{leb-true}
use Rattle.chars.specs.Bytes.{slash, within}
use Rattle.chars.specs.Lists.{split, all}
use Rattle.chars.specs.Folding.{lower, fold}
use Rattle.base.proofs.Bools.{and_false}
use Rattle.names.specs.Names.{segment, part_name}
use Rattle.chars.proofs.Splits.{split_snoc}

all_end : (l : List (List ℕ)) → all segment (l ++ [] ∷ []) ≡ false
unfolding segment
all_end [] = refl
all_end (y ∷ l) = rw (all_end l) (and_false (segment y))

part_end : (u : List ℕ) → part_name (u ++ slash ∷ []) ≡ false
unfolding part_name
part_end [] = refl
part_end (x ∷ u) = rw (split_snoc u, all_end (split slash u)) (and_false (within 2 255 (suc (length (u ++ slash ∷ []))) && eqb x slash))

lower_slash : (x : ℕ) → lower x ≡ slash → x ≡ slash
unfolding lower
lower_slash x e = go (leb 65 x) refl (leb x 90) refl e
  where
    go : (p : Bool) → leb 65 x ≡ p → (q : Bool) → leb x 90 ≡ q → cond (p && q) (x + 32) x ≡ slash → x ≡ slash
    go true f true g h = absurd (omega (arith, leb-true 65 x f))
    go true f false g h = h
    go false f q g h = h

pub part_no_slash : (s q : List ℕ) → part_name s ≡ true → fold s ≡ q ++ slash ∷ [] → ⊥
part_no_slash s q p e = ends s q e (λ u f. true≢false (sym p ∙ ap part_name f ∙ part_end u))
  where
    nothing : (s : List ℕ) → fold s ≡ [] → s ≡ []
    nothing [] e = refl
    nothing (x ∷ s) e = let z : ◌≡◌ {A = ℕ} 0 1 = cc in absurd (omega arith)

    ends : (s q : List ℕ) → fold s ≡ q ++ slash ∷ [] → ((u : List ℕ) → s ≡ u ++ slash ∷ [] → ⊥) → ⊥
    ends [] [] e k = let z : ◌≡◌ {A = ℕ} 0 1 = cc in omega arith
    ends [] (y ∷ q) e k = let z : ◌≡◌ {A = ℕ} 0 1 = cc in omega arith
    ends (x ∷ s) [] e k =
        let f : lower x ≡ slash = cc in
        let g : fold s ≡ [] = cc in
        k [] (ap (λ (b : ℕ). b ∷ s) (lower_slash x f) ∙ ap (λ (l : List ℕ). slash ∷ l) (nothing s g))
    ends (x ∷ s) (y ∷ q) e k =
        let f : fold s ≡ q ++ slash ∷ [] = cc in
        ends s q f (λ u g. k (x ∷ u) (ap (λ (l : List ℕ). x ∷ l) g))
