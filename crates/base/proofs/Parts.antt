-- The laws of `part` and `splice`: lengths, elements, and a part beside a splice or inside it.
-- Assumes nothing.
use mathlib.Core.Path.{◌≡◌, sym, ap, ◌∙◌}
use Prim.Native.Nat.{ℕ, ◌+◌, ◌-◌, ◌≤◌, ◌<◌}
use mathlib.Core.List.{List, [], ◌++◌, append_assoc}
use native.Mathlib.Omega.{arith}
use native.Mathlib.Nat.{add_assoc}
use lib.ListN.{length, take, drop, get_or, length-append, length-take, length-drop, take-append-drop, get_or-append}
use lib.Seq.{length-take-le, take-add, take_at, drop_at, drop-drop, get_or-take, get_or-drop, get_or-append-add, ext_get_or}
use Rattle.base.specs.Buffer.{part, splice}

module _ (a n : ℕ) (l : List ℕ) where
  pub get_or_part : (i : ℕ) → i < n → get_or (part a n l) i 0 ≡ get_or l (a + i) 0
  unfolding part
  get_or_part i h = rw (get_or-take, get_or-drop)

  pub length_part : a + n ≤ length l → length (part a n l) ≡ n
  unfolding part
  length_part h = simp (length-take, length-drop) (omega arith)

  -- a part put where it was
  pub splice_part : a + n ≤ length l → splice l a (part a n l) ≡ l
  unfolding splice part
  splice_part h =
      ap (λ (k : ℕ). take a l ++ part a n l ++ drop (a + k) l) (length_part h)
      ∙ ap (λ (r : List ℕ). r ++ drop (a + n) l) (sym (take-add a n l))
      ∙ take-append-drop (a + n) l

pub part_none : (a n : ℕ) (l : List ℕ) → n ≡ 0 → part a n l ≡ []
unfolding part
part_none a n l e = ap (λ (k : ℕ). take k (drop a l)) e

-- a part and the one behind it
pub part_add : (a n k : ℕ) (l : List ℕ) → part a (n + k) l ≡ part a n l ++ part (a + n) k l
unfolding part
part_add a n k l = take-add n k (drop a l) ∙ ap (λ (r : List ℕ). take n (drop a l) ++ take k r) (drop-drop n a l)

-- the first j bytes of a part of j + k, and the others
module _ (a j k : ℕ) (l : List ℕ) (h : a + j ≤ length l) where
  pub take_part : take j (part a (j + k) l) ≡ part a j l
  take_part = ap (take j) (part_add a j k l) ∙ take_at (part a j l) (part (a + j) k l) j (length_part a j l h)

  pub drop_part : drop j (part a (j + k) l) ≡ part (a + j) k l
  drop_part = ap (drop j) (part_add a j k l) ∙ drop_at (part a j l) (part (a + j) k l) j (length_part a j l h)

module _ (l : List ℕ) (a : ℕ) (s : List ℕ) where
  pub length_splice : a + length s ≤ length l → length (splice l a s) ≡ length l
  unfolding splice
  length_splice h = simp (length-append, length-take, length-drop) (omega arith)

  pub get_or_splice_before : a ≤ length l → (k : ℕ) → k < a → get_or (splice l a s) k 0 ≡ get_or l k 0
  unfolding splice
  get_or_splice_before h k q =
      let e : length (take a l) ≡ a = length-take-le a l h in
      rw append_assoc (get_or-append (take a l) (s ++ drop (a + length s) l) 0 k (omega arith) ∙ get_or-take a l k 0 q)

  pub get_or_splice_in : a ≤ length l → (k : ℕ) → k < length s → get_or (splice l a s) (a + k) 0 ≡ get_or s k 0
  unfolding splice
  get_or_splice_in h k q =
      let e : length (take a l) ≡ a = length-take-le a l h in
      rw append_assoc (ap (λ (m : ℕ). get_or (take a l ++ (s ++ drop (a + length s) l)) (m + k) 0) (sym e)
      ∙ get_or-append-add (take a l) (s ++ drop (a + length s) l) k 0
      ∙ get_or-append s (drop (a + length s) l) 0 k q)

  pub get_or_splice_after : a ≤ length l → (k : ℕ) → a + length s ≤ k → get_or (splice l a s) k 0 ≡ get_or l k 0
  unfolding splice
  get_or_splice_after h k q =
      let p : List ℕ = take a l ++ s in
      let e : length p ≡ a + length s = length-append (take a l) s ∙ ap (λ (m : ℕ). m + length s) (length-take-le a l h) in
      let e2 : k ≡ length p + (k - (a + length s)) = omega arith in
      let e3 : a + length s + (k - (a + length s)) ≡ k = omega arith in
      ap (λ (m : ℕ). get_or (p ++ drop (a + length s) l) m 0) e2
      ∙ get_or-append-add p (drop (a + length s) l) (k - (a + length s)) 0
      ∙ get_or-drop (a + length s) l (k - (a + length s)) 0
      ∙ ap (λ (m : ℕ). get_or l m 0) e3

  -- a part that the splice does not meet is as it was
  pub part_before : (i n : ℕ) → i + n ≤ a → a + length s ≤ length l → part i n (splice l a s) ≡ part i n l
  part_before i n q h =
      let ls : length (splice l a s) ≡ length l = length_splice h in
      let e1 : length (part i n (splice l a s)) ≡ n = length_part i n (splice l a s) (omega arith) in
      let e2 : length (part i n l) ≡ n = length_part i n l (omega arith) in
      ext_get_or 0 (part i n (splice l a s)) (part i n l) (e1 ∙ sym e2)
      (λ k b. let b2 : k < n = omega arith in
      get_or_part i n (splice l a s) k b2 ∙ get_or_splice_before (omega arith) (i + k) (omega arith) ∙ sym (get_or_part i n l k b2))

  pub part_after : (i n : ℕ) → a + length s ≤ i → i + n ≤ length l → part i n (splice l a s) ≡ part i n l
  part_after i n q h =
      let ls : length (splice l a s) ≡ length l = length_splice (omega arith) in
      let e1 : length (part i n (splice l a s)) ≡ n = length_part i n (splice l a s) (omega arith) in
      let e2 : length (part i n l) ≡ n = length_part i n l (omega arith) in
      ext_get_or 0 (part i n (splice l a s)) (part i n l) (e1 ∙ sym e2)
      (λ k b. let b2 : k < n = omega arith in
      get_or_part i n (splice l a s) k b2 ∙ get_or_splice_after (omega arith) (i + k) (omega arith) ∙ sym (get_or_part i n l k b2))

  -- a part of what was spliced in
  pub part_in : (i n : ℕ) → i + n ≤ length s → a + length s ≤ length l → part (a + i) n (splice l a s) ≡ part i n s
  part_in i n q h =
      let ls : length (splice l a s) ≡ length l = length_splice h in
      let e1 : length (part (a + i) n (splice l a s)) ≡ n = length_part (a + i) n (splice l a s) (omega arith) in
      let e2 : length (part i n s) ≡ n = length_part i n s (omega arith) in
      ext_get_or 0 (part (a + i) n (splice l a s)) (part i n s) (e1 ∙ sym e2)
      (λ k b. let b2 : k < n = omega arith in
      get_or_part (a + i) n (splice l a s) k b2
      ∙ ap (λ (m : ℕ). get_or (splice l a s) m 0) (add_assoc a i k)
      ∙ get_or_splice_in (omega arith) (i + k) (omega arith) ∙ sym (get_or_part i n s k b2))
