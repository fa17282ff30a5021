-- Parts of lists.
-- Assumes nothing.
use Prim.Native.Nat.{ℕ, zero, suc, ◌-◌, ◌≤◌}
use mathlib.Core.Path.{◌≡◌, refl, sym, ap, ◌∙◌}
use mathlib.Core.List.{List, [], ◌∷◌, ◌++◌}
use native.Mathlib.Nat.{add-zero}
use native.Mathlib.Omega.{arith}
use lib.ListN.{length, get_or, take, drop, length-drop}
use lib.Seq.{take_all, take-nil, drop_at, get_or-drop}

-- the part s[i..] of a slice
pub take_rest : (s : List ℕ) (i : ℕ) → take (length s - i) (drop i s) ≡ drop i s
take_rest s i = take_all (length s - i) (drop i s) (simp length-drop (omega arith))

pub length_take_le_length : (n : ℕ) (l : List ℕ) → length (take n l) ≤ length l
length_take_le_length zero l = omega arith
length_take_le_length (suc n) [] = omega arith
length_take_le_length (suc n) (x ∷ l) = omega (arith, length_take_le_length n l)

pub length_take_few : (n : ℕ) (l : List ℕ) → length (take n l) ≤ n
length_take_few zero l = omega arith
length_take_few (suc n) [] = omega arith
length_take_few (suc n) (x ∷ l) = omega (arith, length_take_few n l)

pub length_part_le : (n i : ℕ) (s : List ℕ) → length (take n (drop i s)) ≤ length s
length_part_le n i s = omega (arith, length_take_le_length n (drop i s), length-drop i s)

-- the beginning of a rest is the rest of a beginning
pub drop_take : (i n : ℕ) (l : List ℕ) → drop i (take n l) ≡ take (n - i) (drop i l)
drop_take zero n l = let e : n - 0 ≡ n = omega arith in rw e
drop_take (suc i) zero l = let e : 0 - suc i ≡ 0 = omega arith in rw e
drop_take (suc i) (suc n) [] = sym (take-nil (suc n - suc i))
drop_take (suc i) (suc n) (x ∷ l) = let e : suc n - suc i ≡ n - i = omega arith in rw e (drop_take i n l)

-- a beginning, and what follows it
pub append_rest : (a b s : List ℕ) → a ++ b ≡ s → a ++ drop (length a) s ≡ s
append_rest a b s e = ap (λ (t : List ℕ). a ++ drop (length a) t) (sym e) ∙ ap (λ (t : List ℕ). a ++ t) (drop_at a b (length a) refl) ∙ e

-- what follows x in x ++ z
pub get_or_seam : (x z : List ℕ) → get_or (x ++ z) (length x) 0 ≡ get_or z 0 0
get_or_seam [] z = refl
get_or_seam (y ∷ x) z = get_or_seam x z

-- the first byte of a rest
pub get_or_rest : (i : ℕ) (s : List ℕ) → get_or (drop i s) 0 0 ≡ get_or s i 0
get_or_rest i s = get_or-drop i s 0 0 ∙ ap (λ (k : ℕ). get_or s k 0) (add-zero i)
