-- Folding changes no class of bytes that segments are made of, and no unit.
-- Assumes nothing.
use Prim.Native.Nat.{ℕ, ◌≤◌, ◌+◌, ◌<◌, zero, suc, pred}
use mathlib.Core.Path.{◌≡◌, refl, ap, ◌∙◌, sym}
use mathlib.Core.Bool.{Bool, cond, ◌&&◌, true, false, ◌||◌, not}
use mathlib.Core.List.{List, [], ◌∷◌}
use native.Mathlib.Omega.{arith}
use lib.Dec.{leb, eqb}
use lib.ListN.{get_or, get_or-map}
use borrow.Author.Tests.{leb-true, lt-leb, le-leb, ne_eqb, leb-false}
use Rattle.chars.specs.Bytes.{within, segment_byte, unreserved, letter, hex_digit, digit, hex_value, continuation, percent}
use Rattle.chars.specs.Characters.{name_triplet, char2, char3, char4, unit, long_unit}
use Rattle.chars.specs.Folding.{lower, fold}
use Rattle.chars.specs.Lists.{tiled}
use Rattle.chars.specs.declared.units.Grammar.TheVariants.{Segment}
use Rattle.base.proofs.Bools.{and_false, and_left}
use Rattle.chars.proofs.UnitEnds.{stop2, stop3, stop3', stop4, stop4', stop4''}

-- what capitals share with their small letters, every byte shares with its folding
module _ (B : Type 0) (p : ℕ → B) (h : (x : ℕ) → 65 ≤ x → x ≤ 90 → p (x + 32) ≡ p x) where
  pub lower_keeps : (x : ℕ) → p (lower x) ≡ p x
  unfolding lower
  lower_keeps x = go (leb 65 x) refl (leb x 90) refl
    where
      go : (a : Bool) → leb 65 x ≡ a → (b : Bool) → leb x 90 ≡ b → p (cond (a && b) (x + 32) x) ≡ p x
      go true e true f = h x (leb-true 65 x e) (leb-true x 90 f)
      go true e false f = refl
      go false e b f = refl

lower_fixed : (x : ℕ) → 91 ≤ x → lower x ≡ x
unfolding lower
lower_fixed x l = rw (lt-leb x 90 l, and_false)

lower_capital : (x : ℕ) → 65 ≤ x → x ≤ 90 → lower x ≡ x + 32
unfolding lower
lower_capital x l m = rw (le-leb 65 x l, le-leb x 90 m)

pub lower_lower : (x : ℕ) → lower (lower x) ≡ lower x
lower_lower = lower_keeps ℕ lower (λ x l m. lower_fixed (x + 32) (omega arith) ∙ sym (lower_capital x l m))

-- bytes below the letters
pub lower_eqb : (c : ℕ) → c < 65 → (x : ℕ) → eqb (lower x) c ≡ eqb x c
lower_eqb c l = lower_keeps Bool (λ (x : ℕ). eqb x c) (λ x a b. ne_eqb (x + 32) c (λ e. absurd (omega arith)) ∙ sym (ne_eqb x c (λ e. absurd (omega arith))))

-- classes above them
lower_within : (lo hi : ℕ) → 128 ≤ lo → (x : ℕ) → within lo hi (lower x) ≡ within lo hi x
lower_within lo hi l = lower_keeps Bool (within lo hi) (λ x a b. rw (lt-leb lo (x + 32) (omega arith), lt-leb lo x (omega arith)))

segment_lower : (x : ℕ) → segment_byte (lower x) ≡ segment_byte x
unfolding segment_byte unreserved letter
segment_lower = lower_keeps Bool segment_byte
    (λ x a b. rw (le-leb 65 x a, le-leb x 90 b, lt-leb (x + 32) 90 (omega arith), and_false, le-leb 97 (x + 32) (omega arith), le-leb (x + 32) 122 (omega arith)))

hex_lower : (x : ℕ) → hex_digit (lower x) ≡ hex_digit x
unfolding hex_digit digit
hex_lower = lower_keeps Bool hex_digit (λ x a b.
    rw (
      le-leb 48 x (omega arith),
      lt-leb x 57 (omega arith),
      le-leb 65 x a,
      lt-leb 97 x (omega arith),
      le-leb 48 (x + 32) (omega arith),
      lt-leb (x + 32) 57 (omega arith),
      le-leb 65 (x + 32) (omega arith),
      lt-leb (x + 32) 70 (omega arith),
      le-leb 97 (x + 32) (omega arith),
    )
    (go x (leb x 70) refl))
  where
    go : (x : ℕ) (q : Bool) → leb x 70 ≡ q → leb (x + 32) 102 ≡ (q || false)
    go x true e = let l : x ≤ 70 = leb-true x 70 e in le-leb (x + 32) 102 (omega arith)
    go x false e = let l : 70 < x = leb-false x 70 e in lt-leb (x + 32) 102 (omega arith)

value_lower : (x : ℕ) → hex_value (lower x) ≡ hex_value x
value_lower = lower_keeps ℕ hex_value (λ x a b. omega arith)

triplet_lower : (b c : ℕ) → name_triplet (lower b) (lower c) ≡ name_triplet b c
unfolding name_triplet
triplet_lower b c = rw (hex_lower b, hex_lower c, value_lower b, value_lower c)

-- a byte of a character: p says which bytes may stand there, f whether all of it is one
slot_lower : (p f : ℕ → Bool) → ((x : ℕ) → p x ≡ true → 91 ≤ x) → ((x : ℕ) → p x ≡ false → f x ≡ false) → ((x : ℕ) → p (lower x) ≡ p x) → (x : ℕ) → f (lower x) ≡ f x
slot_lower p f high stop keeps x = go (p x) refl
  where
    go : (q : Bool) → p x ≡ q → f (lower x) ≡ f x
    go true e = ap f (lower_fixed x (high x e))
    go false e = stop (lower x) (keeps x ∙ e) ∙ sym (stop x e)

within_high : (lo hi : ℕ) → 128 ≤ lo → (x : ℕ) → within lo hi x ≡ true → 91 ≤ x
within_high lo hi l x e = omega (arith, leb-true lo x (and_left (leb lo x) (leb x hi) e))

on_lower : (f : ℕ → Bool) → ((x : ℕ) → continuation x ≡ false → f x ≡ false) → (x : ℕ) → f (lower x) ≡ f x
unfolding continuation
on_lower f stop = slot_lower continuation f (within_high 0x80 0xBF (omega arith)) stop (lower_within 0x80 0xBF (omega arith))

lead_lower : (lo hi : ℕ) → 128 ≤ lo → (f : ℕ → Bool) → ((x : ℕ) → within lo hi x ≡ false → f x ≡ false) → (x : ℕ) → f (lower x) ≡ f x
lead_lower lo hi l f stop = slot_lower (within lo hi) f (within_high lo hi l) stop (lower_within lo hi l)

char2_lower : (a b : ℕ) → char2 (lower a) (lower b) ≡ char2 a b
unfolding char2
char2_lower a b =
    lead_lower 0xC0 0xDF (omega arith) (λ (x : ℕ). char2 x (lower b)) (λ x e. rw e) a
    ∙ on_lower (λ (x : ℕ). char2 a x) (λ x e. stop2 x e a) b

char3_lower : (a b c : ℕ) → char3 (lower a) (lower b) (lower c) ≡ char3 a b c
unfolding char3
char3_lower a b c =
    lead_lower 0xE0 0xEF (omega arith) (λ (x : ℕ). char3 x (lower b) (lower c)) (λ x e. rw e) a
    ∙ on_lower (λ (x : ℕ). char3 a x (lower c)) (λ x e. stop3 x e a (lower c)) b
    ∙ on_lower (λ (x : ℕ). char3 a b x) (λ x e. stop3' x e a b) c

char4_lower : (a b c d : ℕ) → char4 (lower a) (lower b) (lower c) (lower d) ≡ char4 a b c d
unfolding char4
char4_lower a b c d =
    lead_lower 0xF0 0xF7 (omega arith) (λ (x : ℕ). char4 x (lower b) (lower c) (lower d)) (λ x e. rw e) a
    ∙ on_lower (λ (x : ℕ). char4 a x (lower c) (lower d)) (λ x e. stop4 x e a (lower c) (lower d)) b
    ∙ on_lower (λ (x : ℕ). char4 a b x (lower d)) (λ x e. stop4' x e a b (lower d)) c
    ∙ on_lower (λ (x : ℕ). char4 a b c x) (λ x e. stop4'' x e a b c) d

-- units
pub get_or_fold : (s : List ℕ) (i : ℕ) → get_or (fold s) i 0 ≡ lower (get_or s i 0)
unfolding lower
get_or_fold s i = get_or-map lower s i 0

unit_fold : (s : List ℕ) → unit Segment (fold s) ≡ unit Segment s
unfolding unit long_unit
unit_fold s =
    let a = get_or s 0 0 in
    let b = get_or s 1 0 in
    let c = get_or s 2 0 in
    let d = get_or s 3 0 in
    rw (get_or_fold s 0, get_or_fold s 1, get_or_fold s 2, get_or_fold s 3, segment_lower a, lower_eqb percent (omega arith) a, triplet_lower b c, char2_lower a b, char3_lower a b c, char4_lower a b c d)

pub tiled_fold : (k : ℕ) (s : List ℕ) → tiled (unit Segment) k (fold s) ≡ tiled (unit Segment) k s
unfolding tiled
tiled_fold zero [] = refl
tiled_fold (suc k) [] = refl
tiled_fold (suc k) (b ∷ s) = tiled_fold k s
tiled_fold zero (b ∷ s) = ap (λ (n : ℕ). not (eqb n 0) && tiled (unit Segment) (pred n) (fold s)) (unit_fold (b ∷ s)) ∙ ap (λ (t : Bool). not (eqb (unit Segment (b ∷ s)) 0) && t) (tiled_fold (pred (unit Segment (b ∷ s))) s)
