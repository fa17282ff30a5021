-- Media types with parameters: which there are, and that those of document 01 stay.
-- Assumes nothing.
use mathlib.Core.Path.{◌≡◌, refl, sym, ap, subst, ◌∙◌}
use mathlib.Core.Bool.{true, ◌&&◌, false≢true}
use mathlib.Core.List.{List, [], ◌∷◌, ◌++◌, map, flat_map, append-nil}
use Prim.Native.Nat.{ℕ, ◌+◌, ◌≤◌}
use native.Mathlib.Omega.{arith}
use lib.ListN.{length, take, drop, length-append}
use borrow.Author.Tests.{eqb-true, le-leb}
use Rattle.chars.specs.Bytes.{slash, semicolon, equals_sign, within}
use Rattle.chars.specs.Lists.{every, index_of, lacks, split, all}
use Rattle.base.proofs.Bools.{and_right, and_both, and_true, and_right_true, and_assoc}
use Rattle.chars.proofs.Splits.{split_last, split_whole, split_append, rejoin, rejoin_split}
use Rattle.chars.proofs.UnitBytes.{but}
use Rattle.names.specs.Types.{token, token_pair, type_and_parameters, media_type}
use Rattle.names.specs.Reading.{Parts}
use Rattle.names.specs.Demand.{plain_type, PlainTypesStay, EarlierTypesStay, Two, parted, followed, Followed, EveryMediaType}
use Rattle.names.proofs.Lengths.{media_type_size}
use Rattle.names.proofs.Tokens.{token_some, slash_parts, equals_parts, pair_of, pair_lacks, first_of_lem, second_of, pair_is}

plain_is : (s : List ℕ) → plain_type s ≡ within 3 127 (length s) && token_pair slash s
unfolding plain_type token_pair
plain_is s = and_assoc (within 3 127 (length s)) (token (take (index_of slash s) s)) (token (drop (index_of slash s + 1) s))

-- one stretch is the type alone
one_stretch : (s : List ℕ) → split semicolon s ≡ s ∷ [] → media_type s ≡ plain_type s
unfolding media_type
one_stretch s e = rw (e, and_right_true, plain_is s)

pub plain_types_stay : PlainTypesStay
unfolding lacks
plain_types_stay s e = one_stretch s (split_last semicolon s (eqb-true (index_of semicolon s) (length s) e))

pub earlier_types_stay : EarlierTypesStay
earlier_types_stay s e = one_stretch s (split_whole semicolon s none) ∙ e
  where
    pair : token_pair slash s ≡ true
    pair = and_right (within 3 127 (length s)) (token_pair slash s) (sym (plain_is s) ∙ e)

    none : every (but semicolon) s ≡ true
    none = ap (every (but semicolon)) (pair_is slash s pair)
        ∙ pair_lacks slash slash_parts _ _ (first_of_lem slash s pair) (second_of slash s pair)

abbrev after : List Two → List ℕ
after ps = flat_map (λ (p : Two). semicolon ∷ parted equals_sign p) ps

two_lacks : (b : ℕ) → Parts b → (t : Two) → every (but semicolon) (parted b t) ≡ true
two_lacks b h t = pair_lacks b h t.left t.right t.left_token t.right_token

two_pair : (b : ℕ) → Parts b → (t : Two) → token_pair b (parted b t) ≡ true
two_pair b h t = pair_of b h t.left t.right t.left_token t.right_token

-- a type written out is cut into its type and its parameters
split_followed : (b : ℕ) → Parts b → (t : Two) (ps : List Two) → split semicolon (parted b t ++ after ps) ≡ parted b t ∷ map (parted equals_sign) ps
unfolding flat_map
split_followed b h t [] = rw (append-nil (parted b t)) (split_whole semicolon (parted b t) (two_lacks b h t))
split_followed b h t (p ∷ ps) =
    split_append semicolon (parted b t) (two_lacks b h t) (parted equals_sign p ++ after ps)
    ∙ ap (λ (l : List (List ℕ)). parted b t ∷ l) (split_followed equals_sign equals_parts p ps)

all_pairs : (ps : List Two) → all (token_pair equals_sign) (map (parted equals_sign) ps) ≡ true
all_pairs [] = refl
all_pairs (p ∷ ps) = and_true _ _ (two_pair equals_sign equals_parts p) (all_pairs ps)

followed_some : (t : Two) (ps : List Two) → 3 ≤ length (followed t ps)
followed_some t ps =
    omega (arith, length-append (parted slash t) (after ps), length-append t.left (slash ∷ t.right), token_some t.left t.left_token, token_some t.right t.right_token)

followed_type : (t : Two) (ps : List Two) → length (followed t ps) ≤ 127 → media_type (followed t ps) ≡ true
unfolding media_type
followed_type t ps l =
    rw (
      le-leb 3 (length (followed t ps)) (followed_some t ps),
      le-leb (length (followed t ps)) 127 l,
      split_followed slash slash_parts t ps,
      two_pair slash slash_parts t,
      all_pairs ps,
    )

-- and such a cut is written out again
abbrev two_of : (b : ℕ) (s : List ℕ) → token_pair b s ≡ true → Two
two_of b s e = record {
  left = take (index_of b s) s;
  right = drop (index_of b s + 1) s;
  left_token = first_of_lem b s e;
  right_token = second_of b s e;
}

abbrev parameters_of : (l : List (List ℕ)) → all (token_pair equals_sign) l ≡ true → List Two
parameters_of [] e = []
parameters_of (w ∷ l) e =
    let f = and_both (token_pair equals_sign w) (all (token_pair equals_sign) l) e in
    two_of equals_sign w f.0 ∷ parameters_of l f.1

parameters_is : (l : List (List ℕ)) (e : all (token_pair equals_sign) l ≡ true) → flat_map (λ (v : List ℕ). semicolon ∷ v) l ≡ after (parameters_of l e)
unfolding flat_map
parameters_is [] e = refl
parameters_is (w ∷ l) e =
    let f = and_both (token_pair equals_sign w) (all (token_pair equals_sign) l) e in
    ap (λ (s : List ℕ). semicolon ∷ (w ++ s)) (parameters_is l f.1) ∙ ap (λ (v : List ℕ). semicolon ∷ (v ++ after (parameters_of l f.1))) (pair_is equals_sign w f.0)

followed_from : (l : List (List ℕ)) → type_and_parameters l ≡ true → Followed (rejoin semicolon l)
followed_from [] e = absurd (false≢true e)
followed_from (w ∷ l) e =
    let f = and_both (token_pair slash w) (all (token_pair equals_sign) l) e in
    record {
      type = two_of slash w f.0;
      parameters = parameters_of l f.1;
      is = ap (λ (v : List ℕ). v ++ flat_map (λ (u : List ℕ). semicolon ∷ u) l) (pair_is slash w f.0)
          ∙ ap (λ (r : List ℕ). parted slash (two_of slash w f.0) ++ r) (parameters_is l f.1);
    }

media_followed : (s : List ℕ) → media_type s ≡ true → Followed s
unfolding media_type
media_followed s e =
    subst Followed (rejoin_split semicolon s) (followed_from (split semicolon s) (and_right (within 3 127 (length s)) (type_and_parameters (split semicolon s)) e))

pub every_media_type : EveryMediaType
every_media_type = record {
  accepted = followed_type;
  short = λ s e. (media_type_size s e).1;
  only = media_followed;
}
