-- What is read of a text p before a `<`: names, blanks and text stop there, so it is the same whatever follows the `<`.
-- Assumes nothing.
use Prim.Native.Nat.{ℕ, suc, ◌≤◌}
use native.Mathlib.Omega.{arith}
use mathlib.Core.Path.{◌≡◌, refl, sym, ap, ◌∙◌}
use mathlib.Core.Bool.{Bool, true, false, not, ◌&&◌, cond}
use mathlib.Core.List.{List, [], ◌∷◌, ◌++◌}
use lib.Dec.{eqb}
use lib.ListN.{length, get_or, take, drop, length-drop}
use lib.Seq.{take-append-le, drop-append-le}
use borrow.Author.Tests.{eqb-false, ne_eqb, not-true}
use Rattle.base.proofs.Bools.{and_left, and_right}
use Rattle.base.proofs.Lists.{length_take_le_length}
use Rattle.chars.specs.Bytes.{colon, letter, digit, member}
use Rattle.chars.specs.Lists.{same, begins, every, first_passing, first_not}
use Rattle.chars.specs.declared.search.Alphabet.TheVariants.{Id}
use Rattle.chars.proofs.Searches.{first_le}
use Rattle.markup.specs.Marks.{Outcome, On, Not, either, expected, blank, after_blanks, name_first, id_at, after_colon, name_at, after_name}
use Rattle.markup.specs.Elements.{after_gap}
use Rattle.markup.proofs.Rests.{begins_within}
use Rattle.markup.proofs.NameTexts.{name_begins}

-- THE FIRST BYTE that passes q, if `<` does
pub first_front : (q : ℕ → Bool) → q 60 ≡ true → (p r : List ℕ) → first_passing q (p ++ (60 ∷ r)) ≡ first_passing q p
unfolding first_passing
first_front q e [] r = rw e
first_front q e (b ∷ p) r = ap (λ (n : ℕ). cond (q b) 0 (suc n)) (first_front q e p r)

pub after_front : (q : ℕ → Bool) → q 60 ≡ true → (p r : List ℕ) → drop (first_passing q (p ++ (60 ∷ r))) (p ++ (60 ∷ r)) ≡ drop (first_passing q p) p ++ (60 ∷ r)
after_front q e p r =
    ap (λ (n : ℕ). drop n (p ++ (60 ∷ r))) (first_front q e p r) ∙ drop-append-le (first_passing q p) p (60 ∷ r) (first_le q p)

pub head_front : (f : ℕ → Bool) → f 60 ≡ f 0 → (p r : List ℕ) → f (get_or (p ++ (60 ∷ r)) 0 0) ≡ f (get_or p 0 0)
head_front f e [] r = e
head_front f e (b ∷ p) r = refl

-- BLANKS AND TEXT
pub blanks_front : (p r : List ℕ) → after_blanks (p ++ (60 ∷ r)) ≡ after_blanks p ++ (60 ∷ r)
blanks_front p r = after_front (λ (x : ℕ). not (blank x)) refl p r

pub gap_front : (text : Bool) (p r : List ℕ) → after_gap text (p ++ (60 ∷ r)) ≡ after_gap text p ++ (60 ∷ r)
gap_front true p r = after_front (λ (x : ℕ). eqb x 60) refl p r
gap_front false p r = blanks_front p r

pub length_after : (q : ℕ → Bool) (s : List ℕ) → length (drop (first_passing q s) s) ≤ length s
length_after q s = omega (arith, length-drop (first_passing q s) s)

pub length_gap : (text : Bool) (s : List ℕ) → length (after_gap text s) ≤ length s
length_gap true s = length_after (λ (x : ℕ). eqb x 60) s
length_gap false s = length_after (λ (x : ℕ). not (blank x)) s

-- EXPECTED BYTES, none of which is a `<`
abbrev pub clear : List ℕ → Bool
clear t = every (λ (x : ℕ). not (eqb x 60)) t

other : (x : ℕ) → not (eqb x 60) ≡ true → eqb 60 x ≡ false
other x e = ne_eqb 60 x (λ z. eqb-false x 60 (not-true (eqb x 60) e) (sym z))

pub begins_front : (t : List ℕ) → clear t ≡ true → (p r : List ℕ) → begins t (p ++ (60 ∷ r)) ≡ begins t p
unfolding begins same every
begins_front [] e p r = refl
begins_front (c ∷ t) e [] r = rw (other c (and_left (not (eqb c 60)) (clear t) e))
begins_front (c ∷ t) e (b ∷ p) r = ap (λ (q : Bool). eqb b c && q) (begins_front t (and_right (not (eqb c 60)) (clear t) e) p r)

-- the same behind one that is, which stands in p,
pub begins_first : (t : List ℕ) → clear t ≡ true → (b : ℕ) (p r : List ℕ) → begins (60 ∷ t) ((b ∷ p) ++ (60 ∷ r)) ≡ begins (60 ∷ t) (b ∷ p)
unfolding begins same
begins_first t e b p r = ap (λ (q : Bool). eqb b 60 && q) (begins_front t e p r)

-- or which another byte follows
pub begins_not : (c : ℕ) (t r : List ℕ) → eqb (get_or r 0 0) c ≡ false → begins (60 ∷ c ∷ t) (60 ∷ r) ≡ false
unfolding begins same
begins_not c t [] n = refl
begins_not c t (d ∷ r) n = rw n

pub begins_other : (c : ℕ) (t : List ℕ) → clear (c ∷ t) ≡ true → (p r : List ℕ) → eqb (get_or r 0 0) c ≡ false
    → begins (60 ∷ c ∷ t) (p ++ (60 ∷ r)) ≡ begins (60 ∷ c ∷ t) p
unfolding begins same
begins_other c t e [] r n = begins_not c t r n
begins_other c t e (b ∷ p) r n = begins_first (c ∷ t) e b p r

-- what reading gives, with z behind what remains
abbrev pub farther : List ℕ → Outcome → Outcome
farther z (On s) = On (s ++ z)
farther z (Not n) = Not n

pub expected_front : (t p r : List ℕ) → begins t (p ++ (60 ∷ r)) ≡ begins t p → expected t (p ++ (60 ∷ r)) ≡ farther (60 ∷ r) (expected t p)
expected_front t p r e = rw e (go (begins t p) refl)
  where
    go : (q : Bool) → begins t p ≡ q → either q (On (drop (length t) (p ++ (60 ∷ r)))) (Not 19) ≡ farther (60 ∷ r) (either q (On (drop (length t) p)) (Not 19))
    go true f = ap On (drop-append-le (length t) p (60 ∷ r) (begins_within t p f))
    go false f = refl

-- NAMES
take_front : (p r : List ℕ) → take (first_not (member Id) (p ++ (60 ∷ r))) (p ++ (60 ∷ r)) ≡ take (first_not (member Id) p) p
unfolding member letter digit
take_front p r =
    ap (λ (n : ℕ). take n (p ++ (60 ∷ r))) (first_front (λ (x : ℕ). not (member Id x)) refl p r)
    ∙ take-append-le (first_not (member Id) p) p (60 ∷ r) (first_le (λ (x : ℕ). not (member Id x)) p)

pub first_name_front : (p r : List ℕ) → name_first (get_or (p ++ (60 ∷ r)) 0 0) ≡ name_first (get_or p 0 0)
unfolding letter
first_name_front p r = head_front name_first refl p r

id_front : (p r : List ℕ) → id_at (p ++ (60 ∷ r)) ≡ id_at p
unfolding id_at
id_front p r = rw (first_name_front p r, take_front p r)

length_id : (p : List ℕ) → length (id_at p) ≤ length p
unfolding id_at
length_id p = go (name_first (get_or p 0 0))
  where
    go : (q : Bool) → length (cond q (take (first_not (member Id) p) p) []) ≤ length p
    go true = length_take_le_length (first_not (member Id) p) p
    go false = omega arith

colon_front : (p r : List ℕ) → after_colon (p ++ (60 ∷ r)) ≡ after_colon p
colon_front [] r = refl
colon_front (b ∷ p) r = ap (λ (n : List ℕ). cond (eqb b colon) n []) (id_front p r)

pub name_front : (p r : List ℕ) → name_at (p ++ (60 ∷ r)) ≡ name_at p
unfolding name_at
name_front p r =
    rw (id_front p r, drop-append-le (length (id_at p)) p (60 ∷ r) (length_id p), colon_front (drop (length (id_at p)) p) r)

length_name : (p : List ℕ) → length (name_at p) ≤ length p
length_name p = omega (arith, length_take_le_length (length (name_at p)) p, ap length (name_begins p))

pub after_name_front : (p r : List ℕ) → after_name (p ++ (60 ∷ r)) ≡ after_name p ++ (60 ∷ r)
after_name_front p r =
    ap (λ (n : List ℕ). drop (length n) (p ++ (60 ∷ r))) (name_front p r) ∙ drop-append-le (length (name_at p)) p (60 ∷ r) (length_name p)
