-- Attributes found by their name, and lists of them in which no two are of one name.
-- Assumes nothing.
use Prim.Native.Nat.{ℕ}
use mathlib.Core.Path.{◌≡◌, refl, sym, ap, ◌∙◌}
use mathlib.Core.Bool.{Bool, true, false, not, ◌&&◌, true≢false, false≢true}
use mathlib.Core.List.{List, [], ◌∷◌, ◌++◌}
use mathlib.Core.Option.{none, some}
use borrow.Author.Tests.{not-true}
use Rattle.base.proofs.Bools.{and_left, and_right, and_true, and_false}
use Rattle.chars.specs.Lists.{same}
use Rattle.chars.proofs.Equivalence.{same_eq, eq_same}
use Rattle.markup.specs.Tags.{Attribute, attribute_named, named, distinct, is_there}

-- the first one has the name, or not
pub named_here : (w : List ℕ) (a : Attribute) (xs : List Attribute) → same a.name w ≡ true → attribute_named w (a ∷ xs) ≡ some a
unfolding attribute_named
named_here w a xs e = rw e

pub named_later : (w : List ℕ) (a : Attribute) (xs : List Attribute) → same a.name w ≡ false → attribute_named w (a ∷ xs) ≡ attribute_named w xs
unfolding attribute_named
named_later w a xs e = rw e

pub named_nil : (w : List ℕ) → attribute_named w [] ≡ none
unfolding attribute_named
named_nil w = refl

-- one of several has the name
pub named_in : (w : List ℕ) (xs : List Attribute) (a : Attribute) (ys : List Attribute) → same a.name w ≡ true → named w (xs ++ (a ∷ ys)) ≡ true
named_in w [] a ys e = ap is_there (named_here w a ys e)
named_in w (b ∷ xs) a ys e = go (same b.name w) refl (named_in w xs a ys e)
  where
    go : (q : Bool) → same b.name w ≡ q → named w (xs ++ (a ∷ ys)) ≡ true → named w (b ∷ (xs ++ (a ∷ ys))) ≡ true
    go true f ih = ap is_there (named_here w b (xs ++ (a ∷ ys)) f)
    go false f ih = ap is_there (named_later w b (xs ++ (a ∷ ys)) f) ∙ ih

pub named_left : (w : List ℕ) (xs ys : List Attribute) → named w xs ≡ true → named w (xs ++ ys) ≡ true
named_left w [] ys e = absurd (false≢true (sym (ap is_there (named_nil w)) ∙ e))
named_left w (b ∷ xs) ys e = go (same b.name w) refl (λ (g : named w xs ≡ true). named_left w xs ys g)
  where
    go : (q : Bool) → same b.name w ≡ q → (named w xs ≡ true → named w (xs ++ ys) ≡ true) → named w (b ∷ (xs ++ ys)) ≡ true
    go true f ih = ap is_there (named_here w b (xs ++ ys) f)
    go false f ih = ap is_there (named_later w b (xs ++ ys) f) ∙ ih (sym (ap is_there (named_later w b xs f)) ∙ e)

-- neither the others nor the last one
pub named_not : (w : List ℕ) (xs : List Attribute) (a : Attribute) → same a.name w ≡ false → named w xs ≡ false → named w (xs ++ (a ∷ [])) ≡ false
named_not w [] a e h = ap is_there (named_later w a [] e) ∙ h
named_not w (b ∷ xs) a e h = go (same b.name w) refl (λ (g : named w xs ≡ false). named_not w xs a e g)
  where
    go : (q : Bool) → same b.name w ≡ q → (named w xs ≡ false → named w (xs ++ (a ∷ [])) ≡ false) → named w (b ∷ (xs ++ (a ∷ []))) ≡ false
    go true f ih = absurd (true≢false (sym (ap is_there (named_here w b xs f)) ∙ h))
    go false f ih = ap is_there (named_later w b (xs ++ (a ∷ [])) f) ∙ ih (sym (ap is_there (named_later w b xs f)) ∙ h)

pub same_sym : (a b : List ℕ) → same a b ≡ same b a
same_sym a b = go (same a b) (same b a) refl refl
  where
    go : (p q : Bool) → same a b ≡ p → same b a ≡ q → p ≡ q
    go true true e f = refl
    go true false e f = sym (eq_same b a (sym (same_eq a b e))) ∙ f
    go false true e f = sym e ∙ eq_same a b (sym (same_eq b a f))
    go false false e f = refl

-- one more that has a name of its own
pub distinct_more : (xs : List Attribute) (a : Attribute) → distinct xs ≡ true → named a.name xs ≡ false → distinct (xs ++ (a ∷ [])) ≡ true
unfolding distinct
distinct_more [] a e h = rw h
distinct_more (b ∷ xs) a e h =
    go (same b.name a.name) refl (λ (g : named a.name xs ≡ false). distinct_more xs a (and_right (not (named b.name xs)) (distinct xs) e) g)
  where
    go : (q : Bool) → same b.name a.name ≡ q → (named a.name xs ≡ false → distinct (xs ++ (a ∷ [])) ≡ true) →
        (not (named b.name (xs ++ (a ∷ []))) && distinct (xs ++ (a ∷ []))) ≡ true
    go true f ih = absurd (true≢false (sym (ap is_there (named_here a.name b xs f)) ∙ h))
    go false f ih =
        and_true (not (named b.name (xs ++ (a ∷ [])))) (distinct (xs ++ (a ∷ [])))
        (ap not (named_not b.name xs a (same_sym a.name b.name ∙ f)
        (not-true (named b.name xs) (and_left (not (named b.name xs)) (distinct xs) e))))
        (ih (sym (ap is_there (named_later a.name b xs f)) ∙ h))

-- one whose name was there before it
pub distinct_not : (xs : List Attribute) (a : Attribute) (ys : List Attribute) → named a.name xs ≡ true → distinct (xs ++ (a ∷ ys)) ≡ false
unfolding distinct
distinct_not [] a ys h = absurd (false≢true (sym (ap is_there (named_nil a.name)) ∙ h))
distinct_not (b ∷ xs) a ys h = go (same b.name a.name) refl (λ (g : named a.name xs ≡ true). distinct_not xs a ys g)
  where
    go : (q : Bool) → same b.name a.name ≡ q → (named a.name xs ≡ true → distinct (xs ++ (a ∷ ys)) ≡ false) →
        (not (named b.name (xs ++ (a ∷ ys))) && distinct (xs ++ (a ∷ ys))) ≡ false
    go true f ih = rw (named_in b.name xs a ys (same_sym a.name b.name ∙ f))
    go false f ih = rw (ih (sym (ap is_there (named_later a.name b xs f)) ∙ h)) (and_false (not (named b.name (xs ++ (a ∷ ys)))))
