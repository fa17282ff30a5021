-- A unit lies within its text.
-- Assumes nothing.
use mathlib.Core.Path.{◌≡◌, refl, sym, ◌∙◌}
use mathlib.Core.Bool.{Bool, true, false, not, ◌&&◌, cond, false≢true}
use mathlib.Core.List.{List, [], ◌∷◌}
use Prim.Native.Nat.{ℕ, zero, suc, ◌≤◌, ◌<◌, zero-le}
use native.Mathlib.Omega.{arith}
use lib.Dec.{leb, eqb}
use lib.ListN.{length, get_or}
use Rattle.chars.specs.Bytes.{percent, digit, letter, hex_digit, unreserved, segment_byte, continuation, lead2, lead3, lead4}
use Rattle.chars.specs.Characters.{ucschar, code2, code3, code4, char2, char3, char4, name_triplet, stands, single, triplet, long_unit, unit}
use Rattle.chars.specs.declared.units.Grammar.{Grammar}
use Rattle.chars.specs.declared.units.Grammar.TheVariants.{Segment, Iri}
use Rattle.base.proofs.Bools.{and_left, and_right}

-- a byte that passes a test which 0 fails lies within the text
pub passes_lt : (p : ℕ → Bool) → p 0 ≡ false → (s : List ℕ) (k : ℕ) → p (get_or s k 0) ≡ true → k < length s
passes_lt p z [] k e = absurd (false≢true (sym z ∙ e))
passes_lt p z (x ∷ s) zero e = omega arith
passes_lt p z (x ∷ s) (suc k) e = let h : k < length s = passes_lt p z s k e in omega arith

cond_le : (t : Bool) (n m l : ℕ) → (t ≡ true → n ≤ l) → m ≤ l → cond t n m ≤ l
cond_le true n m l h g = h refl
cond_le false n m l h g = g

-- the last byte of each kind of unit is in a class that 0 is not in
pub last2 : (a b : ℕ) → char2 a b ≡ true → continuation b ≡ true
unfolding char2
last2 a b e = and_right (lead2 a) (continuation b) (and_left (lead2 a && continuation b) (ucschar (code2 a b)) e)

pub last3 : (a b c : ℕ) → char3 a b c ≡ true → continuation c ≡ true
unfolding char3
last3 a b c e =
    let v = code3 a b c in
    let t = lead3 a && continuation b in
    and_right t (continuation c) (and_left (t && continuation c) (leb 0x800 v) (and_left (t && continuation c && leb 0x800 v) (ucschar v) e))

pub last4 : (a b c d : ℕ) → char4 a b c d ≡ true → continuation d ≡ true
unfolding char4
last4 a b c d e =
    let v = code4 a b c d in
    let t = lead4 a && continuation b && continuation c in
    and_right t (continuation d) (and_left (t && continuation d) (leb 0x10000 v) (and_left (t && continuation d && leb 0x10000 v) (ucschar v) e))

pub last_hex : (g : Grammar) (b c : ℕ) → triplet g b c ≡ true → hex_digit c ≡ true
unfolding name_triplet
last_hex Segment b c e =
    let v = stands b c in
    let t = hex_digit b && hex_digit c in
    and_right (hex_digit b) (hex_digit c) (and_left t (not (eqb v 0x2F)) (and_left (t && not (eqb v 0x2F)) (not (eqb v 0x5C)) (and_left (t && not (eqb v 0x2F) && not (eqb v 0x5C)) (not (unreserved v)) e)))
last_hex Iri b c e = and_right (hex_digit b) (hex_digit c) e

pub no_single : (g : Grammar) → single g 0 ≡ false
unfolding segment_byte unreserved letter digit
no_single Segment = refl
no_single Iri = refl

pub no_hex : hex_digit 0 ≡ false
unfolding hex_digit digit
no_hex = refl

pub no_continuation : continuation 0 ≡ false
unfolding continuation
no_continuation = refl

pub unit_le : (g : Grammar) (s : List ℕ) → unit g s ≤ length s
unfolding unit long_unit
unit_le g s =
    let a = get_or s 0 0 in
    let b = get_or s 1 0 in
    let c = get_or s 2 0 in
    let d = get_or s 3 0 in
    cond_le (single g a) 1 _ (length s) (λ e. passes_lt (single g) (no_single g) s 0 e)
    (cond_le (eqb a percent && triplet g b c) 3 _ (length s) (λ e. passes_lt hex_digit no_hex s 2 (last_hex g b c (and_right (eqb a percent) (triplet g b c) e)))
    (cond_le (char2 a b) 2 _ (length s) (λ e. passes_lt continuation no_continuation s 1 (last2 a b e))
    (cond_le (char3 a b c) 3 _ (length s) (λ e. passes_lt continuation no_continuation s 2 (last3 a b c e))
    (cond_le (char4 a b c d) 4 0 (length s) (λ e. passes_lt continuation no_continuation s 3 (last4 a b c d e)) zero-le))))
