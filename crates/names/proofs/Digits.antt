-- Digits read at the position i, after the number v.
-- Assumes nothing.
use mathlib.Core.Path.{◌≡◌, refl, sym, ap, ◌∙◌}
use mathlib.Core.Bool.{Bool, true, false, not, ◌&&◌, ◌||◌, cond, false≢true}
use mathlib.Core.List.{List, [], ◌∷◌}
use Prim.Native.Nat.{ℕ, ◌+◌, ◌-◌, ◌*◌, ◌≤◌, ◌<◌}
use native.Mathlib.Omega.{arith}
use lib.Dec.{leb, eqb}
use lib.ListN.{length, drop, get_or, drop_of_length-le}
use borrow.Author.Tests.{leb-true, le-leb, lt-leb}
use Rattle.chars.specs.Bytes.{digit}
use Rattle.chars.specs.Lists.{every}
use Rattle.names.specs.Numbers.{value, numeral}
use Rattle.names.specs.Reading.{read_number, read_numeral}
use Rattle.std.specs.Prelude.{Option, Some, None}
use Rattle.std.specs.Option.{is_some, unwrap_or}
use Rattle.base.proofs.Bools.{and_left, and_right, and_false}
use Rattle.chars.proofs.Searches.{drop_next}

pub digit_low : (b : ℕ) → digit b ≡ true → 48 ≤ b
unfolding digit
digit_low b e = leb-true _ _ (and_left (leb 48 b) (leb b 57) e)

pub digit_high : (b : ℕ) → digit b ≡ true → b ≤ 57
unfolding digit
digit_high b e = leb-true _ _ (and_right (leb 48 b) (leb b 57) e)

grows : (v : ℕ) (s : List ℕ) → v ≤ value v s
unfolding value
grows v [] = omega arith
grows v (d ∷ s) = omega (arith, grows (v * 10 + (d - 48)) s)

too_big : (v : ℕ) (s : List ℕ) → 9999 < v → read_number v s ≡ None
unfolding read_number
too_big v s h =
    let l : leb (value v s) 9999 ≡ false = lt-leb (value v s) 9999 (omega (arith, grows v s)) in
    rw (l, and_false)

module _ (s : List ℕ) (v i b : ℕ) (h : i < length s) (e : b ≡ get_or s i 0) where
  pub read_more : digit b ≡ true → read_number v (drop i s) ≡ read_number (v * 10 + (b - 48)) (drop (i + 1) s)
  unfolding read_number every value
  read_more d = rw (drop_next s i h, ← e, d)

  pub read_bad : digit b ≡ false → read_number v (drop i s) ≡ None
  unfolding read_number every
  read_bad d = rw (drop_next s i h, ← e, d)

  pub read_big : digit b ≡ true → 999 < v → read_number v (drop i s) ≡ None
  read_big d l = read_more d ∙ too_big (v * 10 + (b - 48)) (drop (i + 1) s) (omega arith)

pub read_done : (s : List ℕ) (v i : ℕ) → length s ≤ i → v ≤ 9999 → read_number v (drop i s) ≡ Some v
unfolding read_number every value
read_done s v i h l = rw (drop_of_length-le s h, le-leb _ _ l)

-- a numeral: the digits of a text that is not empty, nor one zero before others
module _ (s : List ℕ) where
  pub numeral_none : (eqb (length s) 0 || (not (eqb (length s) 1) && eqb (get_or s 0 0) 48)) ≡ true → None ≡ read_numeral s
  unfolding read_numeral numeral
  numeral_none e = go (eqb (length s) 0) (eqb (length s) 1) (eqb (get_or s 0 0) 48) e
    where
      go : (p q r : Bool) → (p || (not q && r)) ≡ true → None ≡ cond (not p && (q || not r) && every digit s && leb (value 0 s) 9999) (Some (value 0 s)) None
      go true q r f = refl
      go false true r f = absurd (false≢true f)
      go false false true f = refl
      go false false false f = absurd (false≢true f)

  pub numeral_some : (eqb (length s) 0 || (not (eqb (length s) 1) && eqb (get_or s 0 0) 48)) ≡ false → read_number 0 s ≡ read_numeral s
  unfolding read_numeral read_number numeral
  numeral_some e = go (eqb (length s) 0) (eqb (length s) 1) (eqb (get_or s 0 0) 48) e
    where
      go : (p q r : Bool) → (p || (not q && r)) ≡ false →
          cond (every digit s && leb (value 0 s) 9999) (Some (value 0 s)) None ≡ cond (not p && (q || not r) && every digit s && leb (value 0 s) 9999) (Some (value 0 s)) None
      go true q r f = absurd (false≢true (sym f))
      go false true r f = refl
      go false false true f = absurd (false≢true (sym f))
      go false false false f = refl

  -- what was read
  pub was_read : (k : ℕ) → Some k ≡ read_numeral s → (numeral s ≡ true) × (value 0 s ≡ k)
  unfolding read_numeral
  was_read k e = go (numeral s) refl e
    where
      go : (q : Bool) → numeral s ≡ q → Some k ≡ cond q (Some (value 0 s)) None → (numeral s ≡ true) × (value 0 s ≡ k)
      go true h f = (h, sym (ap (λ (o : Option ℕ). unwrap_or o 0) f))
      go false h f = absurd (false≢true (sym (ap is_some f)))

  pub unread : None ≡ read_numeral s → numeral s ≡ false
  unfolding read_numeral
  unread e = go (numeral s) refl e
    where
      go : (q : Bool) → numeral s ≡ q → None ≡ cond q (Some (value 0 s)) None → numeral s ≡ false
      go true h f = absurd (false≢true (ap is_some f))
      go false h f = h
