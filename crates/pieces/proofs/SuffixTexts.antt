-- The suffixes of pieces below 1,000: their digits, their lengths, and what the stores that write them come to.
-- Assumes nothing.
use Prim.Native.Nat.{ℕ, ◌+◌, ◌/◌, ◌%◌, ◌≤◌, ◌<◌}
use mathlib.Core.Path.{◌≡◌, refl, ◌∙◌}
use mathlib.Core.Bool.{true, false}
use mathlib.Core.List.{List, [], ◌∷◌, ◌++◌, append_assoc}
use native.Mathlib.Numerals.{towards_suc}
use native.Mathlib.Omega.{arith}
use lib.ListN.{length, take, set, length-append}
use lib.Seq.{sets-eq}
use borrow.Author.Tests.{lt-ltb, le-ltb}
use Rattle.base.specs.Buffer.{part, splice}
use Rattle.base.proofs.Writes.{write, join, within, part_all}
use Rattle.chars.specs.Bytes.{ascii}
use Rattle.names.specs.Items.{last_text}
use Rattle.names.specs.Numbers.{digits, decimal4}
use Rattle.pieces.specs.Suffixes.{suffix_text}

-- DIGITS of a number with one, two and three of them
module _ (k : ℕ) where
  decimal_one : k < 10 → decimal4 k ≡ (48 + k) ∷ []
  unfolding digits
  decimal_one l = rw (lt-ltb k 10 l)

  decimal_two : 10 ≤ k → k < 100 → decimal4 k ≡ (48 + k / 10) ∷ (48 + k % 10) ∷ []
  unfolding digits
  decimal_two g l = rw (le-ltb k 10 g, lt-ltb (k / 10) 10 (omega arith))

  decimal_three : 100 ≤ k → k < 1000 → decimal4 k ≡ (48 + k / 100) ∷ (48 + k / 10 % 10) ∷ (48 + k % 10) ∷ []
  unfolding digits
  decimal_three g l =
      let e : k / 10 / 10 ≡ k / 100 = omega arith in
      rw (le-ltb k 10 (omega arith), le-ltb (k / 10) 10 (omega arith), lt-ltb (k / 10 / 10) 10 (omega arith), e)

  pub length_one : k < 10 → 1 ≡ length (decimal4 k)
  length_one l = rw (decimal_one l)

  pub length_two : 10 ≤ k → k < 100 → 2 ≡ length (decimal4 k)
  length_two g l = rw (decimal_two g l)

  pub length_three : 100 ≤ k → k < 1000 → 3 ≡ length (decimal4 k)
  length_three g l = rw (decimal_three g l)

  -- the stores of the digits
  module _ (o : List ℕ) (a : ℕ) (h : a + 3 ≤ length o) where
    pub put_one : k < 10 → (x : ℕ) → x ≡ 48 + k → set o a x ≡ splice o a (decimal4 k)
    unfolding splice
    put_one l x e = rw (e, decimal_one l) (sets-eq ((48 + k) ∷ []) o a (omega arith))

    pub put_two : 10 ≤ k → k < 100 → (x y : ℕ) → x ≡ 48 + k / 10 → y ≡ 48 + k % 10 → set (set o a x) (a + 1) y ≡ splice o a (decimal4 k)
    unfolding splice
    put_two g l x y e f =
        rw (e, f, decimal_two g l) (simp towards_suc (simp towards_suc at (sets-eq ((48 + k / 10) ∷ (48 + k % 10) ∷ []) o a (omega arith))))

    pub put_three : 100 ≤ k → k < 1000 → (x y z : ℕ) → x ≡ 48 + k / 100 → y ≡ 48 + k / 10 % 10 → z ≡ 48 + k % 10 →
        set (set (set o a x) (a + 1) y) (a + 2) z ≡ splice o a (decimal4 k)
    unfolding splice
    put_three g l x y z e f i =
        rw (e, f, i, decimal_three g l)
        (simp towards_suc (simp towards_suc at (sets-eq ((48 + k / 100) ∷ (48 + k / 10 % 10) ∷ (48 + k % 10) ∷ []) o a h)))

-- SUFFIXES. n is how many digits the number k has
module _ (k n : ℕ) (e : n ≡ length (decimal4 k)) where
  pub suffix_last : 14 + n ≡ length (suffix_text k true)
  suffix_last = omega (arith, length-append (decimal4 k) (last_text true))

  pub suffix_other : 9 + n ≡ length (suffix_text k false)
  suffix_other = omega (arith, length-append (decimal4 k) (last_text false))

  -- written at the start: the bracket, the digits, the ending; m bytes in all
  pub suffix_written : (o p q r t : List ℕ) (m : ℕ) → p ≡ splice o 0 (ascii "/[") → q ≡ splice p 2 (decimal4 k) → r ≡ splice q (2 + n) t →
      m ≡ 2 + n + length t → m ≤ length o → take m r ≡ ascii "/[" ++ (decimal4 k ++ t)
  unfolding part
  suffix_written o p q r t m ep eq er em h =
      let u = write o p 0 2 (ascii "/[") ep refl (omega arith) in
      let v = write p q 2 n (decimal4 k) eq (omega arith) (omega (arith, u.len)) in
      let w = write q r (2 + n) (length t) t er refl (omega (arith, u.len, v.len)) in
      let z = join (2 + n) (length t) (join 2 n u v refl) w (omega arith) in
      within z 0 0 m refl (omega arith) ∙ part_all m ((ascii "/[" ++ decimal4 k) ++ t) (omega (arith, z.size))
      ∙ append_assoc (ascii "/[") (decimal4 k) t
