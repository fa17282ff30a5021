-- A unit ends before a byte that no unit goes on with: what precedes the first number sign of a text of units is one.
-- Assumes nothing.
use Prim.Native.Nat.{ℕ, ◌≤◌, zero, suc, pred}
use mathlib.Core.Path.{◌≡◌, ap, ◌∙◌, sym, refl}
use mathlib.Core.Bool.{false, ◌&&◌, cond, true, not, false≢true}
use mathlib.Core.List.{List, ◌∷◌, ◌++◌, []}
use mathlib.Core.Logic.{⊎_elim}
use native.Mathlib.Nat.{not-suc-le-zero, le_of_suc-le-suc, eq-or-lt_of_le}
use native.Mathlib.Omega.{arith}
use lib.Dec.{eqb}
use lib.ListN.{get_or, length, take, drop, take-append-drop}
use lib.Seq.{take_all, drop-cons}
use Rattle.chars.specs.Bytes.{continuation, lead3, lead4, hex_digit, percent, number_sign, digit}
use Rattle.chars.specs.Characters.{char2, char3, char4, long_unit, unit, single}
use Rattle.chars.specs.Lists.{tiled, index_of}
use Rattle.chars.specs.declared.units.Grammar.TheVariants.{Iri}
use Rattle.base.proofs.Bools.{and_false, and_true, and_left, and_right}
use Rattle.chars.proofs.FirstBytes.{at_index}
use Rattle.chars.proofs.Searches.{index_le}
use Rattle.chars.proofs.UnitLengths.{unit_le, no_continuation, no_hex}

-- a byte that does not go on a character ends it
module _ (z : ℕ) (g : continuation z ≡ false) where
  pub stop2 : (a : ℕ) → char2 a z ≡ false
  unfolding char2
  stop2 a = rw (g, and_false)

  pub stop3 : (a c : ℕ) → char3 a z c ≡ false
  unfolding char3
  stop3 a c = rw (g, and_false)

  pub stop3' : (a b : ℕ) → char3 a b z ≡ false
  unfolding char3
  stop3' a b = rw (g, and_false (lead3 a && continuation b))

  pub stop4 : (a c d : ℕ) → char4 a z c d ≡ false
  unfolding char4
  stop4 a c d = rw (g, and_false)

  pub stop4' : (a b d : ℕ) → char4 a b z d ≡ false
  unfolding char4
  stop4' a b d = rw (g, and_false (lead4 a && continuation b))

  pub stop4'' : (a b c : ℕ) → char4 a b c z ≡ false
  unfolding char4
  stop4'' a b c = rw (g, and_false (lead4 a && continuation b && continuation c))

-- nor does what follows it count, where it is no hexadecimal digit
module _ (z : ℕ) (h : hex_digit z ≡ false) (g : continuation z ≡ false) where
  first : (a c d : ℕ) → long_unit Iri a z c d ≡ 0
  unfolding long_unit
  first a c d = rw (h, and_false (eqb a percent), stop2 z g a, stop3 z g a c, stop4 z g a c d)

  second : (a b d : ℕ) → long_unit Iri a b z d ≡ cond (char2 a b) 2 0
  unfolding long_unit
  second a b d = rw (h, and_false (hex_digit b), and_false (eqb a percent), stop3' z g a b, stop4' z g a b d)

  third : (a b c : ℕ) → long_unit Iri a b c z ≡ cond (eqb a percent && (hex_digit b && hex_digit c)) 3 (cond (char2 a b) 2 (cond (char3 a b c) 3 0))
  unfolding long_unit
  third a b c = rw (stop4'' z g a b c)

module _ (z : ℕ) (h : hex_digit z ≡ false) (g : continuation z ≡ false) (h0 : hex_digit 0 ≡ false) (g0 : continuation 0 ≡ false) where
  unit_before : (a : ℕ) (t r : List ℕ) → unit Iri (a ∷ t ++ z ∷ r) ≡ unit Iri (a ∷ t)
  unfolding unit
  unit_before a [] r = ap (cond (single Iri a) 1) (first z h g a (get_or r 0 0) (get_or r 1 0) ∙ sym (first 0 h0 g0 a 0 0))
  unit_before a (b ∷ []) r = ap (cond (single Iri a) 1) (second z h g a b (get_or r 0 0) ∙ sym (second 0 h0 g0 a b 0))
  unit_before a (b ∷ c ∷ []) r = ap (cond (single Iri a) 1) (third z h g a b c ∙ sym (third 0 h0 g0 a b c))
  unit_before a (b ∷ c ∷ d ∷ t) r = refl

  tiled_before : (k : ℕ) (t r : List ℕ) → k ≤ length t → tiled (unit Iri) k (t ++ z ∷ r) ≡ true → tiled (unit Iri) k t ≡ true
  unfolding tiled
  tiled_before zero [] r l e = refl
  tiled_before (suc k) [] r l e = absurd (not-suc-le-zero l)
  tiled_before (suc k) (b ∷ t) r l e = tiled_before k t r (le_of_suc-le-suc l) e
  tiled_before zero (b ∷ t) r l e = go (unit Iri (b ∷ t)) (unit_le Iri (b ∷ t)) (λ (m : ℕ) f. tiled_before m t r f) (rw (unit_before b t r) at e)
    where
      go : (n : ℕ) → n ≤ suc (length t) → ((m : ℕ) → m ≤ length t → tiled (unit Iri) m (t ++ z ∷ r) ≡ true → tiled (unit Iri) m t ≡ true)
          → (not (eqb n 0) && tiled (unit Iri) (pred n) (t ++ z ∷ r)) ≡ true → (not (eqb n 0) && tiled (unit Iri) (pred n) t) ≡ true
      go zero f ih q = absurd (false≢true q)
      go (suc n) f ih q = and_true (not (eqb (suc n) 0)) (tiled (unit Iri) n t) (and_left (not (eqb (suc n) 0)) (tiled (unit Iri) n (t ++ z ∷ r)) q) (ih n (le_of_suc-le-suc f) (and_right (not (eqb (suc n) 0)) (tiled (unit Iri) n (t ++ z ∷ r)) q))

sign_no_hex : hex_digit number_sign ≡ false
unfolding hex_digit digit
sign_no_hex = refl

sign_no_continuation : continuation number_sign ≡ false
unfolding continuation
sign_no_continuation = refl

-- what precedes the number sign is tiled
pub tiled_front : (s : List ℕ) → tiled (unit Iri) 0 s ≡ true → tiled (unit Iri) 0 (take (index_of number_sign s) s) ≡ true
tiled_front s e = ⊎_elim
    (λ q. rw (q, take_all (length s) s (omega arith)) e)
    (λ l.
    let d : drop (index_of number_sign s) s ≡ number_sign ∷ drop (suc (index_of number_sign s)) s = drop-cons s (index_of number_sign s) 0 l ∙ ap (λ (x : ℕ). x ∷ drop (suc (index_of number_sign s)) s) (at_index number_sign s l) in
    let w : s ≡ take (index_of number_sign s) s ++ number_sign ∷ drop (suc (index_of number_sign s)) s = sym (take-append-drop (index_of number_sign s) s) ∙ ap (λ (t : List ℕ). take (index_of number_sign s) s ++ t) d in
    tiled_before number_sign sign_no_hex sign_no_continuation no_hex no_continuation 0 (take (index_of number_sign s) s) (drop (suc (index_of number_sign s)) s) (omega arith) (sym (ap (tiled (unit Iri) 0) w) ∙ e))
    (eq-or-lt_of_le (index_le number_sign s))
