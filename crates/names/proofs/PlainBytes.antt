-- Plain bytes stand for themselves in a segment, or are slashes: what is known of a name whose first bytes are plain.
-- Assumes nothing.
use mathlib.Core.Path.{◌≡◌, refl, sym, ap, ◌∙◌}
use mathlib.Core.Bool.{Bool, true, false, not, ◌&&◌, ◌||◌, false≢true}
use mathlib.Core.List.{List, []}
use Prim.Native.Nat.{ℕ, ◌+◌, ◌-◌, ◌≤◌, ◌<◌}
use native.Mathlib.Omega.{arith}
use lib.Dec.{T, leb, eqb}
use lib.ListN.{length, take, drop, get_or, length-drop}
use lib.Seq.{take-add, take-take, take_all, length-take-le}
use borrow.Author.Tests.{leb-true, eqb-true, ne_eqb}
use Rattle.chars.specs.Bytes.{slash, dot, open_bracket, within, letter, digit, unreserved, segment_byte, underscore}
use Rattle.chars.specs.Classes.{classes}
use Rattle.chars.specs.Lists.{every, index_of, last_byte, tiled}
use Rattle.chars.specs.Characters.{unit}
use Rattle.chars.specs.declared.units.Grammar.TheVariants.{Segment}
use Rattle.base.proofs.Bools.{and_right, and_right_true}
use Rattle.base.proofs.Lists.{take_rest, drop_take}
use Rattle.chars.proofs.Tables.{both, entries, at}
use Rattle.chars.proofs.FirstBytes.{index_every}
use Rattle.chars.proofs.Searches.{every_append, every_imp, every_both, every_take, every_take_take, every_drop}
use Rattle.chars.proofs.Splits.{stretch_le}
use Rattle.chars.proofs.Tiles.{tiled_end}
use Rattle.chars.proofs.UnitBytes.{but, class_but, tiled_singles}
use Rattle.names.specs.Names.{segment}
use Rattle.names.specs.PlainBytes.{plain, Known}

-- SO MANY BYTES
pub plain_none : every plain [] ≡ true
unfolding every
plain_none = refl

-- eight more, of which some may be known
pub plain_more : (s : List ℕ) (i at : ℕ) → at ≤ i → every plain (take i s) ≡ true → every plain (take 8 (drop at s)) ≡ true → every plain (take (at + 8) s) ≡ true
plain_more s i at h e f =
    let g : every plain (take at s) ≡ true = ap (every plain) (sym (take-take at i s h)) ∙ every_take plain at (take i s) e in
    rw (take-add at 8 s) (every_append plain (take at s) (take 8 (drop at s)) g f)

-- a plain byte of a stretch between slashes stands for itself: one test, computed at each of the 256 places of the table
agree : ℕ → ℕ → Bool
agree b k = not (plain b) || eqb b slash || segment_byte b

agrees : T (entries agree 0 classes)
unfolding both agree plain classes segment_byte unreserved letter digit
agrees = tt

below : (b : ℕ) → plain b ≡ true → b < 256
unfolding plain
below b e = go (within 0x26 0x3B b) (within 0x40 0x5A b) (within 0x61 0x7A b) (eqb b underscore) refl refl refl refl e
  where
    under : (lo hi : ℕ) → hi < 256 → within lo hi b ≡ true → b < 256
    under lo hi h f = omega (arith, leb-true b hi (and_right (leb lo b) (leb b hi) f))

    go : (p q r u : Bool) → within 0x26 0x3B b ≡ p → within 0x40 0x5A b ≡ q → within 0x61 0x7A b ≡ r → eqb b underscore ≡ u → (((p || q) || r) || u) ≡ true → b < 256
    go true q r u ep eq er eu f = under 0x26 0x3B (omega arith) ep
    go false true r u ep eq er eu f = under 0x40 0x5A (omega arith) eq
    go false false true u ep eq er eu f = under 0x61 0x7A (omega arith) er
    go false false false true ep eq er eu f = omega (arith, eqb-true b underscore eu)
    go false false false false ep eq er eu f = absurd (false≢true f)

plain_single : (b : ℕ) → plain b ≡ true → but slash b ≡ true → segment_byte b ≡ true
unfolding agree classes
plain_single b e f = go (plain b) e (eqb b slash) f (segment_byte b) (at agree classes agrees b (below b e))
  where
    go : (p : Bool) → p ≡ true → (q : Bool) → not q ≡ true → (r : Bool) → T (not p || q || r) → r ≡ true
    go p ep q eq true t = refl
    go true ep true eq false t = absurd (false≢true eq)
    go true ep false eq false t = absurd t
    go false ep q eq false t = absurd (false≢true ep)

-- A STRETCH of a name whose first k bytes are plain: from i to the next slash
module _ (t s : List ℕ) (k : ℕ) (known : Known plain t s k) where
  pub known_stretch : (i e j : ℕ) → e ≡ i + index_of slash (drop i s) → i ≤ length s → j ≡ k - i → Known segment_byte t (take (e - i) (drop i s)) j
  known_stretch i e j here h ej =
      let x = take (e - i) (drop i s) in
      let far : e - i ≡ index_of slash (drop i s) = omega arith in
      let first : every plain (take j (drop i s)) ≡ true = ap (every plain) (ap (λ (n : ℕ). take n (drop i s)) ej ∙ sym (drop_take i k s)) ∙ every_drop plain i (take k s) known.bytes in
      let slashes : every (but slash) x ≡ true = ap (λ (n : ℕ). every (but slash) (take n (drop i s))) far ∙ index_every slash (drop i s) in
      let end : e ≤ length s = stretch_le slash s i e here h in
      let long : length x ≡ e - i = length-take-le (e - i) (drop i s) (omega (arith, length-drop i s)) in
      record {
        bytes = every_both plain (but slash) segment_byte plain_single (take j x) (every_take_take plain j (e - i) (drop i s) first) (every_take (but slash) j x slashes);
        table = λ l. known.table (omega arith);
      }

-- A SEGMENT whose first k bytes stand for themselves
module _ (t s : List ℕ) (k : ℕ) (known : Known segment_byte t s k) (n : length s ≡ 0 → ⊥) (x : ℕ) (ex : x ≡ get_or s (length s - 1) 0) where
  segment_is : (u : Bool) → u ≡ tiled (unit Segment) 0 (drop k s) → segment s ≡ (not (eqb x dot) && u)
  unfolding segment last_byte
  segment_is u e = rw (ne_eqb (length s) 0 n, ← ex, tiled_singles Segment k s known.bytes, e)

  pub segment_known : length s ≤ k → segment s ≡ not (eqb x dot)
  segment_known h = segment_is true (sym (tiled_end (unit Segment) s k h)) ∙ and_right_true (not (eqb x dot))

  pub segment_rest : (u : Bool) → u ≡ tiled (unit Segment) 0 (take (length s - k) (drop k s)) → segment s ≡ (not (eqb x dot) && u)
  segment_rest u e = segment_is u (e ∙ ap (tiled (unit Segment) 0) (take_rest s k))

-- NO BRACKET
pub plain_bracket : (s : List ℕ) (k : ℕ) → every plain (take k s) ≡ true → length s ≤ k → every (but open_bracket) s ≡ true
unfolding plain
plain_bracket s k e h = every_imp plain (but open_bracket) (class_but plain open_bracket refl) s (ap (every plain) (sym (take_all k s h)) ∙ e)
