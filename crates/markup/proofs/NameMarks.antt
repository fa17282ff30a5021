-- The marks that names leave: one more mark keeps the others, and a name without a mark was not met.
-- Assumes nothing.
use Prim.Native.Nat.{ℕ, ◌<◌}
use mathlib.Core.Path.{◌≡◌, refl, sym, ap, ◌∙◌}
use mathlib.Core.Bool.{Bool, true, false, false≢true}
use mathlib.Core.List.{List, [], ◌∷◌, ◌++◌}
use lib.Dec.{eqb, leb}
use lib.ListN.{length, get_or, set}
use lib.Seq.{set_out, get_or-set_same, get_or-set_other}
use borrow.Author.Tests.{eqb-true, eqb-false, leb-true, leb-false}
use Rattle.chars.specs.Lists.{same}
use Rattle.chars.proofs.Equivalence.{same_eq}
use Rattle.markup.specs.Tags.{Attribute, named, is_there}
use Rattle.markup.specs.Walks.{mark_of, Marked}
use Rattle.markup.proofs.Distinct.{named_nil, named_later}

-- a mark that is set stays
mark_stays : (l : List Bool) (m j : ℕ) → get_or l j false ≡ true → get_or (set l m true) j false ≡ true
mark_stays l m j e = go (eqb j m) refl
  where
    here : j ≡ m → (q : Bool) → leb (length l) m ≡ q → get_or (set l m true) j false ≡ true
    here f true h = ap (λ (x : List Bool). get_or x j false) (set_out l m true (leb-true (length l) m h)) ∙ e
    here f false h = ap (λ (x : ℕ). get_or (set l m true) x false) f ∙ get_or-set_same l m true false (leb-false (length l) m h)

    go : (q : Bool) → eqb j m ≡ q → get_or (set l m true) j false ≡ true
    go true f = here (eqb-true j m f) (leb (length l) m) refl
    go false f = get_or-set_other l m j true false (eqb-false j m f) ∙ e

pub marked_set : (marks : List Bool) (m : ℕ) (xs : List Attribute) → Marked marks xs → Marked (set marks m true) xs
marked_set marks m [] h = tt
marked_set marks m (a ∷ xs) h = (mark_stays marks m (mark_of a.name) h.0, marked_set marks m xs h.1)

marked_snoc : (marks : List Bool) (xs : List Attribute) (a : Attribute) → Marked marks xs → get_or marks (mark_of a.name) false ≡ true → Marked marks (xs ++ (a ∷ []))
marked_snoc marks [] a h e = (e, tt)
marked_snoc marks (b ∷ xs) a h e = (h.0, marked_snoc marks xs a h.1 e)

-- one more, which leaves its mark at m
pub marked_more : (marks : List Bool) (m : ℕ) (xs : List Attribute) (a : Attribute) → m ≡ mark_of a.name → m < length marks → Marked marks xs →
    Marked (set marks m true) (xs ++ (a ∷ []))
marked_more marks m xs a e h g =
    marked_snoc (set marks m true) xs a (marked_set marks m xs g) (ap (λ (j : ℕ). get_or (set marks m true) j false) (sym e) ∙ get_or-set_same marks m true false h)

-- a name without a mark
pub unmarked : (marks : List Bool) (w : List ℕ) (xs : List Attribute) → Marked marks xs → get_or marks (mark_of w) false ≡ false → named w xs ≡ false
unmarked marks w [] h z = ap is_there (named_nil w)
unmarked marks w (a ∷ xs) h z = go (same a.name w) refl (unmarked marks w xs h.1 z)
  where
    go : (q : Bool) → same a.name w ≡ q → named w xs ≡ false → named w (a ∷ xs) ≡ false
    go true e ih =
        absurd (false≢true (sym z ∙ ap (λ (x : List ℕ). get_or marks (mark_of x) false) (sym (same_eq a.name w e)) ∙ h.0))
    go false e ih = ap is_there (named_later w a xs e) ∙ ih
