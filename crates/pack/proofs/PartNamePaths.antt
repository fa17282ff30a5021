-- A part name has no byte that ends a path: it is a path to its end.
-- Assumes nothing.
use Prim.Native.Nat.{ℕ, suc}
use mathlib.Core.Path.{◌≡◌, sym, ◌∙◌, refl, ap}
use mathlib.Core.Bool.{Bool, not, false, true, false≢true, cond}
use mathlib.Core.List.{List, [], ◌∷◌}
use lib.Dec.{leb}
use lib.ListN.{length}
use borrow.Author.Tests.{ne_eqb, le-leb}
use Rattle.chars.specs.Bytes.{member, number_sign, segment_byte, unreserved, letter, digit, hex_digit}
use Rattle.chars.specs.Lists.{every, first_passing}
use Rattle.chars.specs.declared.search.Alphabet.TheVariants.{PathEnd}
use Rattle.chars.specs.declared.units.Grammar.TheVariants.{Segment}
use Rattle.base.proofs.Bools.{and_left, and_right}
use Rattle.chars.proofs.UnitBytes.{Covers}
use Rattle.names.specs.Names.{part_name}
use Rattle.names.proofs.NameBytes.{name_every}
use Rattle.iri.specs.Components.{question, path_length}
use Rattle.base.proofs.Cases.{by_value}

unfoldable clean : ℕ → Bool
clean b = not (member PathEnd b)

-- a class without the bytes that end a path is clean
class_clean : (p : ℕ → Bool) → p question ≡ false → p number_sign ≡ false → (b : ℕ) → p b ≡ true → clean b ≡ true
unfolding clean member
class_clean p f g b =
    let P : ℕ → Type 0 = λ (x : ℕ). p x ≡ true → clean x ≡ true in
    by_value P b question (λ e. absurd (false≢true (sym f ∙ e))) (λ c. by_value P b number_sign (λ e. absurd (false≢true (sym g ∙ e))) (λ d e. rw (ne_eqb b question c, ne_eqb b number_sign d)))

covers : Covers Segment clean
unfolding clean member segment_byte unreserved letter digit hex_digit
covers = record {
  singles = class_clean segment_byte refl refl;
  percents = refl;
  hexes = class_clean hex_digit refl refl;
  highs = λ b l. class_clean (leb 0x80) refl refl b (le-leb 0x80 b l);
}

none_first : (s : List ℕ) → every clean s ≡ true → path_length s ≡ length s
unfolding every clean first_passing
none_first [] e = refl
none_first (b ∷ s) e = go (member PathEnd b) (and_left (not (member PathEnd b)) (every clean s) e) (none_first s (and_right (not (member PathEnd b)) (every clean s) e))
  where
    go : (q : Bool) → not q ≡ true → path_length s ≡ length s → cond q 0 (suc (path_length s)) ≡ suc (length s)
    go true f h = absurd (false≢true f)
    go false f h = ap suc h

pub name_path : (n : List ℕ) → part_name n ≡ true → path_length n ≡ length n
unfolding clean member
name_path n h = none_first n (name_every n h clean covers refl)
