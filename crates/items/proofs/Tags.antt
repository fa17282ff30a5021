-- Tags of items: what they tell of the suffix.
-- Assumes nothing.
use Prim.Native.Nat.{ℕ, suc, ◌+◌, ◌*◌, ◌%◌, ◌≤◌, ◌<◌}
use mathlib.Core.Path.{◌≡◌, refl, sym, ◌∙◌}
use mathlib.Core.Bool.{Bool, true, false, not, ◌&&◌, ◌||◌, cond}
use native.Mathlib.Numerals.{add-one}
use native.Mathlib.Omega.{arith}
use lib.Dec.{ltb, eqb}
use borrow.Author.Tests.{ltb-true, ltb-false, lt-ltb, le-ltb, eq-eqb, ne_eqb}
use mir.Val.{bool_byte}
use Rattle.names.specs.declared.items.Suffix.{Suffix}
use Rattle.names.specs.declared.items.Suffix.TheVariants.{Whole, Piece}
use Rattle.model.specs.Fields.{last}
use Rattle.model.specs.Package.{rank, disagrees}
use Rattle.contract.specs.Rows.{tag_of, default_tag}
use Rattle.contract.proofs.RowKeys.{tag_half}
use Rattle.items.specs.Clashes.{tags_disagree}

pub tag_odd : (x : Suffix) → eqb (tag_of x % 2) 1 ≡ last x
tag_odd Whole = refl
tag_odd (Piece k true) = eq-eqb ((2 * suc k + 1) % 2) 1 (omega arith)
tag_odd (Piece k false) = ne_eqb ((2 * suc k + 0) % 2) 1 (λ e. omega arith)

pub tag_is : (x : Suffix) → tag_of x ≡ 2 * rank x + cond (last x) 1 0
tag_is Whole = refl
tag_is (Piece k l) = refl

tag_zero : (x : Suffix) → eqb (tag_of x) 0 ≡ eqb (rank x) 0
tag_zero Whole = refl
tag_zero (Piece k l) = ne_eqb (2 * suc k + cond l 1 0) 0 (λ e. omega arith) ∙ sym (ne_eqb (suc k) 0 (λ e. omega arith))

ltb_suc : (a b : ℕ) → ltb (suc a) (suc b) ≡ ltb a b
ltb_suc a b = go (ltb a b) refl
  where
    go : (t : Bool) → ltb a b ≡ t → ltb (suc a) (suc b) ≡ t
    go true e = lt-ltb (suc a) (suc b) (omega (arith, ltb-true a b e))
    go false e = le-ltb (suc a) (suc b) (omega (arith, ltb-false a b e))

eqb_suc : (a : ℕ) → eqb (suc a) 0 ≡ false
eqb_suc a = ne_eqb (suc a) 0 (λ e. omega arith)

pub tags_disagree_is : (x y : Suffix) → tags_disagree (tag_of x) (tag_of y) ≡ disagrees x y
unfolding tags_disagree
tags_disagree_is x y = rw (tag_zero x, tag_zero y, tag_odd x, tag_odd y, tag_half x, tag_half y) (go x y)
  where
    go : (x y : Suffix) →
        (eqb (rank x) 0 && not (eqb (rank y) 0) || not (eqb (rank x) 0) && eqb (rank y) 0 || last x && last y || last y && ltb (rank y) (rank x) || last x && ltb (rank x) (rank y)) ≡ disagrees x y
    go Whole Whole = refl
    go Whole (Piece j m) = rw (eqb_suc j)
    go (Piece k l) Whole = rw (eqb_suc k)
    go (Piece k l) (Piece j m) = rw (eqb_suc k, eqb_suc j, ltb_suc j k, ltb_suc k j)

-- A TAG MADE
pub piece_fits : (x : Suffix) (k : ℕ) (l : Bool) → tag_of x < default_tag → x ≡ Piece k l → 2 * suc k < default_tag
piece_fits x k l h e = let g : 2 * suc k + cond l 1 0 < default_tag = rw e at h in omega arith

pub mark_few : (l : Bool) (r : ℕ) → r ≡ bool_byte l → r ≤ 1
mark_few true r e = omega arith
mark_few false r e = omega arith

pub tag_piece : (x : Suffix) (k : ℕ) (l : Bool) (r : ℕ) → x ≡ Piece k l → r ≡ bool_byte l → 2 * (k + 1) + r ≡ tag_of x
tag_piece x k true r e f = rw (e, f, add-one k)
tag_piece x k false r e f = rw (e, f, add-one k)
