-- The table of byte classes agrees with the grammars' byte classes: one test, computed at each of the 256 entries.
-- Assumes nothing.
use mathlib.Core.Bool.{Bool, true, false, ◌||◌, false≢true}
use mathlib.Core.Path.{◌≡◌, refl}
use Prim.Native.Nat.{ℕ, ◌≤◌, ◌<◌}
use lib.Dec.{T, leb, eqb}
use borrow.Author.Tests.{leb-true}
use lib.ListN.{get_or}
use Rattle.chars.specs.Bytes.{digit, letter, hex_digit, unreserved, segment_byte, continuation, lead2, lead3, lead4, member, within, hex_value}
use Rattle.chars.specs.Characters.{single}
use Rattle.chars.specs.Classes.{classes, Classed}
use Rattle.chars.specs.declared.search.Alphabet.TheVariants.{Token, Scheme, Id, SchemeEnd, AuthorityEnd, PathEnd}
use Rattle.chars.specs.declared.units.Grammar.TheVariants.{Iri}
use Rattle.chars.proofs.Tables.{both, alike, is_alike, both_left, both_right, at}

-- the rules of `Classed`, as one test
agree : ℕ → ℕ → Bool
agree b k =
    both (alike (eqb k 0) (digit b))
    (both (alike (leb k 1) (hex_digit b))
    (both (alike (within 1 2 k) (letter b))
    (both (alike (leb k 5) (unreserved b))
    (both (alike (leb k 9) (segment_byte b))
    (both (alike (leb k 12) (single Iri b))
    (both (alike (leb k 7 || within 12 14 k) (member Token b))
    (both (alike (leb k 3 || eqb k 6) (member Scheme b))
    (both (alike (leb k 4) (member Id b))
    (both (alike (within 9 12 k) (member SchemeEnd b))
    (both (alike (within 10 12 k) (member AuthorityEnd b))
    (both (alike (within 11 12 k) (member PathEnd b))
    (both (alike (eqb k 16) (continuation b))
    (both (alike (eqb k 17) (lead2 b))
    (both (alike (eqb k 18) (lead3 b))
    (alike (eqb k 19) (lead4 b))))))))))))))))

rules : (b k : ℕ) → T (agree b k) → Classed b k
unfolding agree
rules b k t0 =
    let t1 = both_right _ _ t0 in
    let t2 = both_right _ _ t1 in
    let t3 = both_right _ _ t2 in
    let t4 = both_right _ _ t3 in
    let t5 = both_right _ _ t4 in
    let t6 = both_right _ _ t5 in
    let t7 = both_right _ _ t6 in
    let t8 = both_right _ _ t7 in
    let t9 = both_right _ _ t8 in
    let t10 = both_right _ _ t9 in
    let t11 = both_right _ _ t10 in
    let t12 = both_right _ _ t11 in
    let t13 = both_right _ _ t12 in
    let t14 = both_right _ _ t13 in
    record {
      is_digit = is_alike _ _ (both_left _ _ t0);
      is_hex_digit = is_alike _ _ (both_left _ _ t1);
      is_letter = is_alike _ _ (both_left _ _ t2);
      is_unreserved = is_alike _ _ (both_left _ _ t3);
      is_segment_byte = is_alike _ _ (both_left _ _ t4);
      is_iri_byte = is_alike _ _ (both_left _ _ t5);
      is_token = is_alike _ _ (both_left _ _ t6);
      is_scheme = is_alike _ _ (both_left _ _ t7);
      is_id = is_alike _ _ (both_left _ _ t8);
      is_scheme_end = is_alike _ _ (both_left _ _ t9);
      is_authority_end = is_alike _ _ (both_left _ _ t10);
      is_path_end = is_alike _ _ (both_left _ _ t11);
      is_continuation = is_alike _ _ (both_left _ _ t12);
      is_lead2 = is_alike _ _ (both_left _ _ t13);
      is_lead3 = is_alike _ _ (both_left _ _ t14);
      is_lead4 = is_alike _ _ (both_right _ _ t14);
    }

pub classed : (b : ℕ) → b < 256 → Classed b (get_or classes b 0)
unfolding agree both alike classes member segment_byte unreserved hex_digit digit letter continuation
classed b h = rules b (get_or classes b 0) (at agree classes tt b h)

small : ℕ → ℕ → Bool
small b k = alike (hex_digit b) (both (hex_digit b) (leb (hex_value b) 15))

second : (a b : Bool) → T (alike a (both a b)) → a ≡ true → b ≡ true
unfolding alike both
second true true t e = refl
second true false t e = absurd t
second false b t e = absurd (false≢true e)

-- a hexadecimal digit is worth 15 at most
pub hex_small : (b : ℕ) → b < 256 → hex_digit b ≡ true → hex_value b ≤ 15
unfolding small both alike classes hex_digit digit
hex_small b h e = leb-true _ _ (second (hex_digit b) (leb (hex_value b) 15) (at small classes tt b h) e)
