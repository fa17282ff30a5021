-- The text of the name at the start, and whether there is one.
-- Assumes nothing.
use Prim.Native.Nat.{ℕ, zero, suc, ◌+◌, ◌-◌, ◌<◌}
use native.Mathlib.Omega.{arith}
use mathlib.Core.Path.{◌≡◌, refl, sym, ap, ap₂, ◌∙◌}
use mathlib.Core.Bool.{Bool, true, false, ◌||◌, cond}
use mathlib.Core.List.{List, [], ◌∷◌, ◌++◌}
use lib.Dec.{eqb}
use lib.ListN.{length, get_or, take, drop, length-append}
use lib.Seq.{take-add, drop-drop}
use borrow.Author.Tests.{eqb-true}
use Rattle.base.specs.Buffer.{part}
use Rattle.base.proofs.Bools.{or_right, not_passing, passing}
use Rattle.chars.specs.Bytes.{colon, letter, digit, member}
use Rattle.chars.specs.Lists.{first_passing, first_not}
use Rattle.chars.specs.declared.search.Alphabet.TheVariants.{Id}
use Rattle.markup.specs.Marks.{name_first, id_at, after_colon, parted, name_at, after_name}

-- a name's first byte is one of a name's bytes
first_member : (b : ℕ) → name_first b ≡ true → member Id b ≡ true
unfolding member
first_member b e = go (letter b) (digit b) (eqb b 46) (eqb b 95) (eqb b 45) e
  where
    go : (l d p u m : Bool) → (l || u) ≡ true → (l || d || (p || (u || (m || false)))) ≡ true
    go true d p u m f = refl
    go false d p true m f = or_right d (p || true) (or_right p true refl)
    go false d p false m f = absurd (let z : ◌≡◌ {A = ℕ} 0 1 = cc in omega arith)

pub id_head : (x : ℕ) (l : List ℕ) → name_first x ≡ true → id_at (x ∷ l) ≡ x ∷ take (first_not (member Id) l) l
unfolding id_at first_passing
id_head x l e = rw (e, first_member x e)

pub id_none : (l : List ℕ) → name_first (get_or l 0 0) ≡ false → id_at l ≡ []
unfolding id_at
id_none l e = rw e

parted_some : (x : ℕ) (p n : List ℕ) → length (parted (x ∷ p) n) ≡ 0 → ⊥
parted_some x p [] e = omega arith
parted_some x p (y ∷ n) e = omega arith

name_empty : (l : List ℕ) → name_first (get_or l 0 0) ≡ false → length (name_at l) ≡ 0
unfolding name_at
name_empty l e = rw (id_none l e)

name_begun : (l : List ℕ) → length (name_at l) ≡ 0 → name_first (get_or l 0 0) ≡ true → ⊥
unfolding name_at letter
name_begun [] h e = let z : ◌≡◌ {A = ℕ} 0 1 = cc in omega arith
name_begun (x ∷ l) h e =
    parted_some x (take (first_not (member Id) l) l) (after_colon (drop (length (id_at (x ∷ l))) (x ∷ l)))
    (ap (λ (p : List ℕ). length (parted p (after_colon (drop (length (id_at (x ∷ l))) (x ∷ l))))) (sym (id_head x l e)) ∙ h)

-- there is none where its first byte is none of a name's first bytes
pub name_none : (l : List ℕ) → length (name_at l) ≡ 0 → name_first (get_or l 0 0) ≡ false
name_none l h = not_passing (name_first (get_or l 0 0)) (name_begun l h)

pub name_some : (l : List ℕ) → (length (name_at l) ≡ 0 → ⊥) → name_first (get_or l 0 0) ≡ true
name_some l h = passing (name_first (get_or l 0 0)) (λ e. h (name_empty l e))

-- the name is the beginning of its length
take_twice : (k : ℕ) (l : List ℕ) → take (length (take k l)) l ≡ take k l
take_twice zero l = refl
take_twice (suc k) [] = refl
take_twice (suc k) (x ∷ l) = ap (λ (t : List ℕ). x ∷ t) (take_twice k l)

id_begins : (l : List ℕ) → take (length (id_at l)) l ≡ id_at l
unfolding id_at
id_begins l = go (name_first (get_or l 0 0))
  where
    go : (q : Bool) → take (length (cond q (take (first_not (member Id) l) l) [])) l ≡ cond q (take (first_not (member Id) l) l) []
    go true = take_twice (first_not (member Id) l) l
    go false = refl

after_colon_lem : (r : List ℕ) → (take (length (after_colon r)) (drop 1 r) ≡ after_colon r) × (0 < length (after_colon r) → r ≡ colon ∷ drop 1 r)
after_colon_lem [] = (refl, λ h. absurd (omega arith))
after_colon_lem (z ∷ r) = go (eqb z colon) refl
  where
    go : (q : Bool) → eqb z colon ≡ q → (take (length (cond q (id_at r) [])) r ≡ cond q (id_at r) []) × (0 < length (cond q (id_at r) []) → z ∷ r ≡ colon ∷ r)
    go true e = (id_begins r, λ h. ap (λ (x : ℕ). x ∷ r) (eqb-true z colon e))
    go false e = (refl, λ h. absurd (omega arith))

parted_begins : (p n l : List ℕ) → take (length p) l ≡ p → take (length n) (drop 1 (drop (length p) l)) ≡ n →
    (0 < length n → drop (length p) l ≡ colon ∷ drop 1 (drop (length p) l)) →
    take (length (parted p n)) l ≡ parted p n
parted_begins [] n l e f g = refl
parted_begins (x ∷ p) [] l e f g = e
parted_begins (x ∷ p) (y ∷ n) l e f g =
    let a : ℕ = length (x ∷ p) in
    ap (λ (k : ℕ). take k l) (length-append (x ∷ p) (colon ∷ y ∷ n)) ∙ take-add a (length (colon ∷ y ∷ n)) l
    ∙ ap₂ ◌++◌ e (ap (take (length (colon ∷ y ∷ n))) (g (omega arith)) ∙ ap (λ (t : List ℕ). colon ∷ t) f)

pub name_begins : (l : List ℕ) → take (length (name_at l)) l ≡ name_at l
unfolding name_at
name_begins l =
    let r : List ℕ = drop (length (id_at l)) l in
    parted_begins (id_at l) (after_colon r) l (id_begins l) (after_colon_lem r).0 (after_colon_lem r).1

-- the name that begins at `at` ends at n
module _ (s : List ℕ) (at n : ℕ) (here : n ≡ at + length (name_at (drop at s))) where
  pub name_part : name_at (drop at s) ≡ part at (n - at) s
  unfolding part
  name_part =
      let e : length (name_at (drop at s)) ≡ n - at = omega arith in
      sym (name_begins (drop at s)) ∙ ap (λ (k : ℕ). take k (drop at s)) e

  pub behind_name : drop n s ≡ after_name (drop at s)
  behind_name = ap (λ (k : ℕ). drop k s) here ∙ sym (drop-drop (length (name_at (drop at s))) at s)

  pub no_name_at : n ≡ at → name_first (get_or (drop at s) 0 0) ≡ false
  no_name_at e = name_none (drop at s) (omega arith)

  pub name_at_lem : (n ≡ at → ⊥) → name_first (get_or (drop at s) 0 0) ≡ true
  name_at_lem f = name_some (drop at s) (λ z. f (omega arith))
