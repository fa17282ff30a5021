-- The package IRI of an authority: triplets below %80, and the walk that decodes them.
-- Assumes nothing.
use Prim.Native.Nat.{ℕ, ◌*◌, ◌+◌, ◌<◌, ◌≤◌, zero, suc}
use mathlib.Core.Path.{◌≡◌, sym, ◌∙◌, ap, refl}
use mathlib.Core.Bool.{Bool, ◌&&◌, false, cond, true}
use mathlib.Core.List.{List, [], ◌∷◌, map, ◌++◌, append_assoc, append-nil}
use native.Mathlib.Numerals.{add-one}
use native.Mathlib.Omega.{arith}
use lib.Dec.{eqb}
use lib.ListN.{drop, get_or, get_or-map, length, length-map, take, set, drop_of_length-le}
use lib.Seq.{get_or-drop, drop-cons, drop-drop, take-suc-set}
use borrow.Author.Tests.{lt-ltb, le-ltb}
use Rattle.chars.specs.Bytes.{hex_digit, percent, hex_value}
use Rattle.chars.specs.Characters.{stands}
use Rattle.std.specs.Prelude.{Some, None}
use Rattle.base.proofs.Bools.{and_right, and_left}
use Rattle.pack.specs.Pack.{low_triplet, character, decoded, slashed, package_of}
use Rattle.pack.specs.Scratch.{Decoded}

-- one triplet: u and v say whether its digits are digits
module _ (a b c : ℕ) (u v : Bool) (eu : u ≡ hex_digit b) (ev : v ≡ hex_digit c) where
  pub low_none : (eqb a percent && u && v) ≡ false → None ≡ cond (low_triplet a b c) (Some (stands b c)) None
  unfolding low_triplet
  low_none q = rw (← eu, ← ev, q)

  module _ (q : (eqb a percent && u && v) ≡ true) where
    pub first_hex : hex_digit b ≡ true
    first_hex = sym eu ∙ and_right (eqb a percent) u (and_left (eqb a percent && u) v q)

    pub second_hex : hex_digit c ≡ true
    second_hex = sym ev ∙ and_right (eqb a percent && u) v q

    module _ (h k : ℕ) (f : h ≡ hex_value b) (g : k ≡ hex_value c) where
      is_stands : 16 * h + k ≡ stands b c
      is_stands = rw (f, g)

      pub low_is : 16 * h + k < 128 → Some (16 * h + k) ≡ cond (low_triplet a b c) (Some (stands b c)) None
      unfolding low_triplet
      low_is l = ap (λ (n : ℕ). Some n) is_stands ∙ rw (← eu, ← ev, q, lt-ltb (stands b c) 128 (omega (arith, is_stands, l)))

      pub low_high : 128 ≤ 16 * h + k → None ≡ cond (low_triplet a b c) (Some (stands b c)) None
      unfolding low_triplet
      low_high l = rw (← eu, ← ev, q, le-ltb (stands b c) 128 (omega (arith, is_stands, l)))

-- the byte that is written, and how many it stands in place of, where a triplet stands for it and where none does
abbrev pub Replaced : Bool → ℕ → ℕ → ℕ → ℕ → ℕ → Type 0
Replaced low a b c w n = (w ≡ character low a b c) × (n ≡ cond low 3 1)

pub replaced_low : (low : Bool) (a b c v : ℕ) → Some v ≡ cond low (Some (stands b c)) None → Replaced low a b c v 3
replaced_low true a b c v e = (cc e, refl)
replaced_low false a b c v e = absurd (cc e)

pub replaced_none : (low : Bool) (a b c : ℕ) → None ≡ cond low (Some (stands b c)) None → Replaced low a b c a 1
replaced_none true a b c e = absurd (cc e)
replaced_none false a b c e = (refl, refl)

decoded_skip : (k : ℕ) (t : List ℕ) → decoded k t ≡ decoded 0 (drop k t)
unfolding decoded
decoded_skip zero t = refl
decoded_skip (suc k) [] = refl
decoded_skip (suc k) (x ∷ t) = decoded_skip k t

at_map : (s : List ℕ) (j : ℕ) → get_or (map slashed s) j 0 ≡ slashed (get_or s j 0)
unfolding slashed
at_map s j = get_or-map slashed s j 0

-- a turn of the walk, at the position i
module _ (s : List ℕ) (i a b c x y z : ℕ) (h : i < length s) (ex : x ≡ get_or s i 0) (ea : a ≡ slashed x) (ey : y ≡ get_or s (i + 1) 0) (eb : b ≡ slashed y) (ez : z ≡ get_or s (i + 2) 0) (ec : c ≡ slashed z) where
  abbrev m : List ℕ
  m = map slashed s

  m_long : i < length m
  m_long = rw (length-map s slashed) h

  at_0 : get_or m i 0 ≡ a
  at_0 = at_map s i ∙ ap slashed (sym ex) ∙ sym ea

  at_1 : get_or (drop (suc i) m) 0 0 ≡ b
  at_1 = get_or-drop (suc i) m 0 0 ∙ ap (λ (j : ℕ). get_or m j 0) (let e : suc i + 0 ≡ i + 1 = omega arith in e) ∙ at_map s (i + 1) ∙ ap slashed (sym ey) ∙ sym eb

  at_2 : get_or (drop (suc i) m) 1 0 ≡ c
  at_2 = get_or-drop (suc i) m 1 0 ∙ ap (λ (j : ℕ). get_or m j 0) (let e : suc i + 1 ≡ i + 2 = omega arith in e) ∙ at_map s (i + 2) ∙ ap slashed (sym ez) ∙ sym ec

  decode_step : decoded 0 (drop i m) ≡ character (low_triplet a b c) a b c ∷ decoded 0 (drop (i + cond (low_triplet a b c) 3 1) m)
  unfolding decoded
  decode_step = ap (decoded 0) (drop-cons m i 0 m_long) ∙ rw (at_0, at_1, at_2) (go (low_triplet a b c))
    where
      go : (q : Bool) → character q a b c ∷ decoded (cond q 2 0) (drop (suc i) m) ≡ character q a b c ∷ decoded 0 (drop (i + cond q 3 1) m)
      go true = ap (λ (l : List ℕ). stands b c ∷ l) (decoded_skip 2 (drop (suc i) m) ∙ ap (decoded 0) (drop-drop 2 (suc i) m ∙ ap (λ (j : ℕ). drop j m) (let e : suc i + 2 ≡ i + 3 = omega arith in e)))
      go false = ap (λ (l : List ℕ). a ∷ decoded 0 l) (ap (λ (j : ℕ). drop j m) (let e : suc i ≡ i + 1 = omega arith in e))

  pub decode_turn : (out : List ℕ) (o w n : ℕ) → o < length out → Replaced (low_triplet a b c) a b c w n
      → package_of s ≡ take o out ++ decoded 0 (drop i (map slashed s)) → package_of s ≡ take (o + 1) (set out o w) ++ decoded 0 (drop (i + n) (map slashed s))
  decode_turn out o w n l r e =
      e ∙ ap (λ (t : List ℕ). take o out ++ t) (decode_step ∙ ap (λ (x : ℕ). x ∷ decoded 0 (drop (i + cond (low_triplet a b c) 3 1) m)) (sym r.0) ∙ ap (λ (x : ℕ). w ∷ decoded 0 (drop (i + x) m)) (sym r.1))
      ∙ sym (append_assoc (take o out) (w ∷ []) (decoded 0 (drop (i + n) m)))
      ∙ ap (λ (t : List ℕ). t ++ decoded 0 (drop (i + n) m)) (sym (ap (λ (k : ℕ). take k (set out o w)) (add-one o) ∙ take-suc-set out o w l))

pub decode_start : (s : List ℕ) → package_of s ≡ decoded 0 (map slashed s)
unfolding package_of
decode_start s = refl

pub decode_end : (s out : List ℕ) (i o : ℕ) → length s ≤ i → o ≤ length s → package_of s ≡ take o out ++ decoded 0 (drop i (map slashed s)) → Decoded s o out
unfolding decoded
decode_end s out i o h g e =
    let l : length (map slashed s) ≤ i = rw (length-map s slashed) h in
    record { text = sym (e ∙ ap (λ (t : List ℕ). take o out ++ decoded 0 t) (drop_of_length-le (map slashed s) l) ∙ append-nil (take o out)); few = g }
