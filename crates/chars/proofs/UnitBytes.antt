-- Which bytes a text of units can hold.
-- Assumes nothing.
use mathlib.Core.Path.{◌≡◌, refl, sym, ap, ◌∙◌}
use mathlib.Core.Bool.{Bool, true, false, not, ◌&&◌, cond, false≢true}
use mathlib.Core.List.{List, [], ◌∷◌}
use Prim.Native.Nat.{ℕ, zero, suc, pred, ◌≤◌, ◌<◌}
use native.Mathlib.Omega.{arith}
use lib.Dec.{leb, eqb}
use lib.ListN.{take, drop, get_or}
use borrow.Author.Tests.{leb-true, eqb-true, ne_eqb}
use Rattle.chars.specs.Bytes.{percent, hex_digit, unreserved, continuation, lead2, lead3, lead4}
use Rattle.chars.specs.Lists.{every, tiled}
use Rattle.chars.specs.Characters.{ucschar, code2, code3, code4, char2, char3, char4, name_triplet, stands, single, triplet, long_unit, unit}
use Rattle.chars.specs.declared.units.Grammar.{Grammar}
use Rattle.chars.specs.declared.units.Grammar.TheVariants.{Segment, Iri}
use Rattle.base.proofs.Bools.{and_left, and_right, and_true}
use Rattle.chars.proofs.UnitLengths.{last2, last3, last4, last_hex}

-- each byte that a unit can hold passes q
pub record Covers (g : Grammar) (q : ℕ → Bool) : Type 0 where
  pub singles : (b : ℕ) → single g b ≡ true → q b ≡ true
  pub percents : q percent ≡ true
  pub hexes : (b : ℕ) → hex_digit b ≡ true → q b ≡ true
  pub highs : (b : ℕ) → 0x80 ≤ b → q b ≡ true

at_least : (lo hi b : ℕ) → 0x80 ≤ lo → (leb lo b && leb b hi) ≡ true → 0x80 ≤ b
at_least lo hi b h e = omega (arith, leb-true lo b (and_left (leb lo b) (leb b hi) e))

high : (b : ℕ) → continuation b ≡ true → 0x80 ≤ b
unfolding continuation
high b e = at_least 0x80 0xBF b (omega arith) e

first_hex : (g : Grammar) (b c : ℕ) → triplet g b c ≡ true → hex_digit b ≡ true
unfolding name_triplet
first_hex Segment b c e =
    let v = stands b c in
    let t = hex_digit b && hex_digit c in
    and_left (hex_digit b) (hex_digit c) (and_left t (not (eqb v 0x2F)) (and_left (t && not (eqb v 0x2F)) (not (eqb v 0x5C)) (and_left (t && not (eqb v 0x2F) && not (eqb v 0x5C)) (not (unreserved v)) e)))
first_hex Iri b c e = and_left (hex_digit b) (hex_digit c) e

module _ (g : Grammar) (q : ℕ → Bool) (covers : Covers g q) where
  -- the first n bytes of s pass
  abbrev Front : ℕ → List ℕ → Type 0
  Front n s = every q (take n s) ≡ true

  front_none : (s : List ℕ) → Front 0 s
  unfolding every
  front_none [] = refl
  front_none (x ∷ s) = refl

  front_more : (n : ℕ) (s : List ℕ) → q (get_or s 0 0) ≡ true → Front n (drop 1 s) → Front (suc n) s
  unfolding every
  front_more n [] e f = refl
  front_more n (x ∷ s) e f = rw (e) f

  get_or_tail : (s : List ℕ) (i : ℕ) → get_or (drop 1 s) i 0 ≡ get_or s (suc i) 0
  get_or_tail [] i = refl
  get_or_tail (x ∷ s) i = refl

  front_2 : (s : List ℕ) → q (get_or s 0 0) ≡ true → q (get_or s 1 0) ≡ true → Front 2 s
  front_2 s a b = front_more 1 s a (front_more 0 (drop 1 s) (ap q (get_or_tail s 0) ∙ b) (front_none (drop 1 (drop 1 s))))

  front_3 : (s : List ℕ) → q (get_or s 0 0) ≡ true → q (get_or s 1 0) ≡ true → q (get_or s 2 0) ≡ true → Front 3 s
  front_3 s a b c = front_more 2 s a (front_2 (drop 1 s) (ap q (get_or_tail s 0) ∙ b) (ap q (get_or_tail s 1) ∙ c))

  front_4 : (s : List ℕ) → q (get_or s 0 0) ≡ true → q (get_or s 1 0) ≡ true → q (get_or s 2 0) ≡ true → q (get_or s 3 0) ≡ true → Front 4 s
  front_4 s a b c d = front_more 3 s a (front_3 (drop 1 s) (ap q (get_or_tail s 0) ∙ b) (ap q (get_or_tail s 1) ∙ c) (ap q (get_or_tail s 2) ∙ d))

  passes2 : (a b : ℕ) → char2 a b ≡ true → (q a ≡ true) × (q b ≡ true)
  unfolding char2
  passes2 a b e =
      let f : (lead2 a && continuation b) ≡ true = and_left (lead2 a && continuation b) (ucschar (code2 a b)) e in
      (covers.highs a (at_least 0xC0 0xDF a (omega arith) (and_left (lead2 a) (continuation b) f)), covers.highs b (high b (last2 a b e)))

  passes3 : (a b c : ℕ) → char3 a b c ≡ true → (q a ≡ true) × (q b ≡ true) × (q c ≡ true)
  unfolding char3
  passes3 a b c e =
      let v = code3 a b c in
      let w = lead3 a && continuation b in
      let f : w ≡ true = and_left w (continuation c) (and_left (w && continuation c) (leb 0x800 v) (and_left (w && continuation c && leb 0x800 v) (ucschar v) e)) in
      (covers.highs a (at_least 0xE0 0xEF a (omega arith) (and_left (lead3 a) (continuation b) f)), covers.highs b (high b (and_right (lead3 a) (continuation b) f)), covers.highs c (high c (last3 a b c e)))

  passes4 : (a b c d : ℕ) → char4 a b c d ≡ true → (q a ≡ true) × (q b ≡ true) × (q c ≡ true) × (q d ≡ true)
  unfolding char4
  passes4 a b c d e =
      let v = code4 a b c d in
      let w = lead4 a && continuation b in
      let t = w && continuation c in
      let f : t ≡ true = and_left t (continuation d) (and_left (t && continuation d) (leb 0x10000 v) (and_left (t && continuation d && leb 0x10000 v) (ucschar v) e)) in
      let k : w ≡ true = and_left w (continuation c) f in (
        covers.highs a (at_least 0xF0 0xF7 a (omega arith) (and_left (lead4 a) (continuation b) k)),
        covers.highs b (high b (and_right (lead4 a) (continuation b) k)),
        covers.highs c (high c (and_right w (continuation c) f)),
        covers.highs d (high d (last4 a b c d e)),
      )

  either : (t : Bool) (n m : ℕ) (s : List ℕ) → (t ≡ true → Front n s) → Front m s → Front (cond t n m) s
  either true n m s f h = f refl
  either false n m s f h = h

  unit_passes : (s : List ℕ) → Front (unit g s) s
  unfolding unit long_unit
  unit_passes s =
      let a = get_or s 0 0 in
      let b = get_or s 1 0 in
      let c = get_or s 2 0 in
      let d = get_or s 3 0 in
      either (single g a) 1 _ s (λ e. front_more 0 s (covers.singles a e) (front_none (drop 1 s)))
      (either (eqb a percent && triplet g b c) 3 _ s
      (λ e. let t = and_right (eqb a percent) (triplet g b c) e in
      front_3 s (ap q (eqb-true a percent (and_left (eqb a percent) (triplet g b c) e)) ∙ covers.percents) (covers.hexes b (first_hex g b c t)) (covers.hexes c (last_hex g b c t)))
      (either (char2 a b) 2 _ s (λ e. let t = passes2 a b e in front_2 s t.0 t.1)
      (either (char3 a b c) 3 _ s (λ e. let t = passes3 a b c e in front_3 s t.0 t.1 t.2)
      (either (char4 a b c d) 4 0 s (λ e. let t = passes4 a b c d e in front_4 s t.0 t.1 t.2 t.3) (front_none s)))))

  -- a text of units, whose first k bytes are of a unit before
  tiled_from : (k : ℕ) (s : List ℕ) → tiled (unit g) k s ≡ true → Front k s → every q s ≡ true
  unfolding tiled every
  tiled_from zero [] h f = refl
  tiled_from (suc k) [] h f = refl
  tiled_from (suc k) (b ∷ s) h f = and_true (q b) (every q s) (and_left (q b) (every q (take k s)) f) (tiled_from k s h (and_right (q b) (every q (take k s)) f))
  tiled_from zero (b ∷ s) h f = go (unit g (b ∷ s)) (λ (n : ℕ) i e. tiled_from n s i e) (unit_passes (b ∷ s)) h
    where
      go : (n : ℕ) → ((m : ℕ) → tiled (unit g) m s ≡ true → Front m s → every q s ≡ true) → Front n (b ∷ s) → (not (eqb n 0) && tiled (unit g) (pred n) s) ≡ true → (q b && every q s) ≡ true
      go zero ih i e = absurd (false≢true e)
      go (suc n) ih i e = and_true (q b) (every q s) (and_left (q b) (every q (take n s)) i) (ih n (and_right (not (eqb (suc n) 0)) (tiled (unit g) n s) e) (and_right (q b) (every q (take n s)) i))

  pub tiled_every : (s : List ℕ) → tiled (unit g) 0 s ≡ true → every q s ≡ true
  tiled_every s h = tiled_from 0 s h (front_none s)

-- all bytes but c
abbrev pub but : ℕ → ℕ → Bool
but c x = not (eqb x c)

-- a byte of a class that c is not in is not c
pub class_but : (p : ℕ → Bool) (c : ℕ) → p c ≡ false → (b : ℕ) → p b ≡ true → but c b ≡ true
class_but p c z b e = rw (ne_eqb b c (λ h. false≢true (sym z ∙ ap p (sym h) ∙ e)))

-- an ASCII byte that is neither % nor a unit nor a hexadecimal digit stands in no unit
pub covers_but : (g : Grammar) (c : ℕ) → single g c ≡ false → hex_digit c ≡ false → eqb percent c ≡ false → c < 0x80 → Covers g (but c)
covers_but g c s h p l = record {
  singles = class_but (single g) c s;
  percents = ap not p;
  hexes = class_but hex_digit c h;
  highs = λ b k. rw (ne_eqb b c (λ e. omega arith));
}

-- bytes at the beginning that are units by themselves
pub tiled_singles : (g : Grammar) (k : ℕ) (s : List ℕ) → every (single g) (take k s) ≡ true → tiled (unit g) 0 s ≡ tiled (unit g) 0 (drop k s)
unfolding every tiled unit
tiled_singles g zero s e = refl
tiled_singles g (suc k) [] e = refl
tiled_singles g (suc k) (b ∷ s) e =
    rw (and_left (single g b) (every (single g) (take k s)) e) (tiled_singles g k s (and_right (single g b) (every (single g) (take k s)) e))
