-- Whether a group is a part is told by its last item and its length: its items stand by number, and none disagrees with another.
-- Assumes nothing.
use Prim.Native.Nat.{ℕ, suc, ◌+◌, ◌-◌, ◌*◌, ◌≤◌, ◌<◌}
use mathlib.Core.Path.{◌≡◌, refl, ap, sym, ◌∙◌}
use mathlib.Core.Bool.{Bool, true, false, not, ◌&&◌, ◌||◌, true≢false}
use mathlib.Core.List.{List, [], ◌∷◌}
use native.Mathlib.Omega.{arith}
use lib.Dec.{eqb}
use lib.ListN.{length, get_or}
use borrow.Author.Tests.{eqb-true, eq-eqb, ne_eqb}
use Rattle.names.specs.declared.items.Suffix.{Suffix}
use Rattle.names.specs.declared.items.Suffix.TheVariants.{Whole, Piece}
use Rattle.base.proofs.Bools.{and_false}
use Rattle.model.specs.Sets.{any, AllPairs}
use Rattle.model.specs.Fields.{suffix_of, whole, last}
use Rattle.model.specs.Package.{no_item, Item, rank, complete_from, is_part, disagrees}
use Rattle.model.proofs.Lists.{each_at}
use Rattle.contract.specs.Rows.{tag_of}
use Rattle.contract.proofs.RowKeys.{tag_half}

-- the suffix of an item, and its tag
abbrev pub mark : Item → Suffix
mark i = suffix_of i.name

abbrev pub tag_in : Item → ℕ
tag_in i = tag_of (mark i)

abbrev pub Ascending : List Item → Type 0
Ascending g = AllPairs (λ (i j : Item). rank (mark i) < rank (mark j)) g

abbrev pub Agreeing : List Item → Type 0
Agreeing g = AllPairs (λ (i j : Item). disagrees (mark i) (mark j) ≡ false) g

-- the last item of i and those after it
abbrev end : Item → List Item → Item
end i is = get_or (i ∷ is) (length is) no_item

-- numbers rise by one at least
rank_end : (i : Item) (is : List Item) → Ascending (i ∷ is) → rank (mark i) + length is ≤ rank (mark (end i is))
rank_end i [] h = omega arith
rank_end i (j ∷ is) h = omega (arith, rank_end j is h.1, h.0.0)

-- one piece: the last, of the number k
one_piece : (k : ℕ) (x : Suffix) → (eqb (rank x) (suc k) && last x) ≡ eqb (tag_of x) (2 * (k + 1) + 1)
one_piece k Whole = and_false (eqb 0 (suc k)) ∙ sym (ne_eqb 0 (2 * (k + 1) + 1) (λ e. omega arith))
one_piece k (Piece j true) = go (eqb (suc j) (suc k)) refl
  where
    go : (b : Bool) → eqb (suc j) (suc k) ≡ b → (b && true) ≡ eqb (2 * suc j + 1) (2 * (k + 1) + 1)
    go true e = sym (eq-eqb (2 * suc j + 1) (2 * (k + 1) + 1) (omega (arith, eqb-true (suc j) (suc k) e)))
    go false e = sym (ne_eqb (2 * suc j + 1) (2 * (k + 1) + 1) (λ z. true≢false (sym (eq-eqb (suc j) (suc k) (omega arith)) ∙ e)))
one_piece k (Piece j false) = and_false (eqb (suc j) (suc k)) ∙ sym (ne_eqb (2 * suc j + 0) (2 * (k + 1) + 1) (λ e. omega arith))

-- beside a last piece stands no other last mark
not_last : (x y : Suffix) (m : ℕ) → disagrees x y ≡ false → tag_of y ≡ 2 * m + 1 → last x ≡ false
not_last Whole y m d e = refl
not_last (Piece k l) Whole m d e = absurd (omega arith)
not_last (Piece k false) (Piece j u) m d e = refl
not_last (Piece k true) (Piece j true) m d e = absurd (true≢false d)
not_last (Piece k true) (Piece j false) m d e = absurd (omega arith)

-- items whose numbers begin above k: complete from k on if the last item is the last piece of as many
complete_end : (k : ℕ) (i : Item) (is : List Item) → k < rank (mark i) → Ascending (i ∷ is) → Agreeing (i ∷ is) → complete_from k (i ∷ is) ≡ eqb (tag_in (end i is)) (2 * (k + suc (length is)) + 1)
unfolding complete_from
complete_end k i [] l h a = one_piece k (mark i)
complete_end k i (j ∷ is) l h a =
    let n : ℕ = 2 * (suc k + suc (length is)) + 1 in
    let same : n ≡ 2 * (k + suc (suc (length is))) + 1 = omega arith in
    ap (λ (b : Bool). eqb (rank (mark i)) (suc k) && not (last (mark i)) && b) (complete_end (suc k) j is (omega (arith, h.0.0)) h.1 a.1)
    ∙ go (eqb (tag_in (end j is)) n) refl
    ∙ ap (eqb (tag_in (end j is))) same
  where
    go : (b : Bool) → eqb (tag_in (end j is)) (2 * (suc k + suc (length is)) + 1) ≡ b → (eqb (rank (mark i)) (suc k) && not (last (mark i)) && b) ≡ b
    go false e = and_false (eqb (rank (mark i)) (suc k) && not (last (mark i)))
    go true e =
        let t : tag_in (end j is) ≡ 2 * (suc k + suc (length is)) + 1 = eqb-true _ _ e in
        let r : rank (mark i) ≡ suc k = omega (arith, t, tag_half (mark (end j is)), rank_end j is h.1, h.0.0) in
        rw (
          eq-eqb (rank (mark i)) (suc k) r,
          not_last (mark i) (mark (end j is)) (suc k + suc (length is)) (each_at (λ (x : Item). disagrees (mark i) (mark x) ≡ false) (j ∷ is) (length is) no_item (omega arith) a.0) t,
        )

-- the tag of the last item tells: that of a whole item, or of the last piece of as many
abbrev pub tells : ℕ → ℕ → Bool
tells t n = eqb t 0 || eqb t (2 * n + 1)

pub part_end : (i : Item) (is : List Item) → Ascending (i ∷ is) → Agreeing (i ∷ is) → tells (tag_in (end i is)) (suc (length is)) ≡ is_part (i ∷ is)
unfolding is_part any complete_from
part_end i is h a = go (mark i) refl is h a
  where
    above : (t : ℕ) (n : ℕ) → 0 < t → tells t n ≡ eqb t (2 * n + 1)
    above t n l = rw (ne_eqb t 0 (λ e. omega arith))

    two : (js : List Item) → eqb (suc (suc (length js))) 1 ≡ false
    two js = ne_eqb (suc (suc (length js))) 1 (λ e. omega arith)

    go : (x : Suffix) → mark i ≡ x → (is : List Item) → Ascending (i ∷ is) → Agreeing (i ∷ is) →
        tells (tag_in (end i is)) (suc (length is)) ≡ (eqb (length (i ∷ is)) 1 && any (λ (j : Item). whole (mark j)) (i ∷ is) || complete_from 0 (i ∷ is))
    go Whole e [] h a = rw e
    go Whole e (j ∷ js) h a = absurd (alone (mark j) a.0.0 h.0.0)
      where
        alone : (y : Suffix) → disagrees (mark i) y ≡ false → rank (mark i) < rank y → ⊥
        alone Whole d l = omega arith
        alone (Piece k m) d l = true≢false (sym (ap (λ (x : Suffix). disagrees x (Piece k m)) e) ∙ d)
    go (Piece k l) e [] h a = above (tag_in i) 1 (omega (arith, ap tag_of e)) ∙ sym (complete_end 0 i [] (omega (arith, ap rank e)) h a) ∙ sym (rw e)
    go (Piece k l) e (j ∷ js) h a =
        let z : suc (suc (length js)) ≡ 0 + suc (suc (length js)) = omega arith in
        above (tag_in (end j js)) (suc (suc (length js))) (omega (arith, ap rank e, tag_half (mark (end j js)), rank_end i (j ∷ js) h))
        ∙ ap (λ (n : ℕ). eqb (tag_in (end j js)) (2 * n + 1)) z
        ∙ sym (complete_end 0 i (j ∷ js) (omega (arith, ap rank e)) h a) ∙ sym (rw (two js))

-- the same of a list of n items
pub part_told : (g : List Item) (n t : ℕ) → length g ≡ n → 0 < n → Ascending g → Agreeing g → t ≡ tag_in (get_or g (n - 1) no_item) → tells t n ≡ is_part g
part_told [] n t l z h a e = absurd (omega arith)
part_told (i ∷ is) n t l z h a e =
    let k : n - 1 ≡ length is = omega arith in
    rw (e, k, ← l) (part_end i is h a)
