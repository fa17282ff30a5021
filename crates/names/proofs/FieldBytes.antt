-- Bytes that stand in no field: in no media type, extension, id or IRI. (For part names: NameBytes.)
-- Assumes nothing.
use mathlib.Core.Path.{◌≡◌, ap, ◌∙◌}
use mathlib.Core.Bool.{Bool, true, false, not, ◌&&◌, ◌||◌, false≢true}
use mathlib.Core.List.{List, [], ◌∷◌}
use Prim.Native.Nat.{ℕ, ◌+◌, ◌<◌}
use lib.Dec.{eqb}
use lib.ListN.{length, get_or, take, drop}
use Rattle.chars.specs.Bytes.{slash, dot, percent, semicolon, equals_sign, number_sign, underscore, within, letter, hex_digit, member}
use Rattle.chars.specs.Lists.{every, index_of, lacks, split, all, tiled}
use Rattle.chars.specs.Characters.{single, unit}
use Rattle.chars.specs.declared.search.Alphabet.TheVariants.{Token, Id}
use Rattle.chars.specs.declared.units.Grammar.TheVariants.{Segment, Iri}
use Rattle.base.proofs.Bools.{and_left, and_right, and_true}
use Rattle.chars.proofs.Searches.{every_append, every_imp}
use Rattle.chars.proofs.Splits.{split_every, all_imp}
use Rattle.chars.proofs.UnitBytes.{tiled_every, but, class_but, covers_but}
use Rattle.names.specs.Types.{token, token_pair, type_and_parameters, media_type, extension, identifier}
use Rattle.names.specs.Iris.{scheme_end, colon_first, scheme, iri}
use Rattle.names.proofs.Tokens.{pair_is, first_of_lem, second_of}

-- TOKENS
token_every : (q : ℕ → Bool) → ((x : ℕ) → member Token x ≡ true → q x ≡ true) → (s : List ℕ) → token s ≡ true → every q s ≡ true
unfolding token
token_every q h s e = every_imp (member Token) q h s (and_right (not (eqb (length s) 0)) (every (member Token) s) e)

pair_every : (q : ℕ → Bool) → ((x : ℕ) → member Token x ≡ true → q x ≡ true) → (b : ℕ) → q b ≡ true → (s : List ℕ) → token_pair b s ≡ true → every q s ≡ true
unfolding every
pair_every q h b f s e =
    ap (every q) (pair_is b s e)
    ∙ every_append q (take (index_of b s) s) (b ∷ drop (index_of b s + 1) s) (token_every q h _ (first_of_lem b s e))
    (and_true (q b) (every q (drop (index_of b s + 1) s)) f (token_every q h _ (second_of b s e)))

-- a byte that is in no token, and none of `/ ; =`
pub media_type_but : (c : ℕ) → member Token c ≡ false → eqb slash c ≡ false → eqb semicolon c ≡ false → eqb equals_sign c ≡ false →
    (s : List ℕ) → media_type s ≡ true → every (but c) s ≡ true
unfolding media_type
media_type_but c t l m n s e =
    split_every semicolon (but c) (ap not m) s (go (split semicolon s) (and_right (within 3 127 (length s)) (type_and_parameters (split semicolon s)) e))
  where
    pair : (b : ℕ) → eqb b c ≡ false → (u : List ℕ) → token_pair b u ≡ true → every (but c) u ≡ true
    pair b f u = pair_every (but c) (class_but (member Token) c t) b (ap not f) u

    go : (l : List (List ℕ)) → type_and_parameters l ≡ true → all (every (but c)) l ≡ true
    go [] f = absurd (false≢true f)
    go (u ∷ us) f =
        and_true (every (but c) u) (all (every (but c)) us) (pair slash l u (and_left (token_pair slash u) (all (token_pair equals_sign) us) f))
        (all_imp (token_pair equals_sign) (every (but c)) (pair equals_sign n) us (and_right (token_pair slash u) (all (token_pair equals_sign) us) f))

-- an ASCII byte that is in no unit and no triplet
module _ (c : ℕ) (x : hex_digit c ≡ false) (p : eqb percent c ≡ false) (l : c < 0x80) where
  pub extension_but : single Segment c ≡ false → (s : List ℕ) → extension s ≡ true → every (but c) s ≡ true
  unfolding extension
  extension_but g s e =
      tiled_every Segment (but c) (covers_but Segment c g x p l) s (and_right (within 1 31 (length s) && lacks dot s) (tiled (unit Segment) 0 s) e)

  pub iri_but : single Iri c ≡ false → (s : List ℕ) → iri s ≡ true → every (but c) s ≡ true
  unfolding iri
  iri_but g s e =
      let a : Bool = within 1 255 (length s) in
      let t : Bool = tiled (unit Iri) 0 s in
      let n : Bool = lacks number_sign (drop (index_of number_sign s + 1) s) in
      tiled_every Iri (but c) (covers_but Iri c g x p l) s
      (and_right a t (and_left (a && t) n (and_left ((a && t) && n) (not (colon_first s) || scheme (take (scheme_end s) s)) e)))

-- a byte that is in no id
pub identifier_but : (c : ℕ) → member Id c ≡ false → (s : List ℕ) → identifier s ≡ true → every (but c) s ≡ true
unfolding identifier
identifier_but c i s e =
    every_imp (member Id) (but c) (class_but (member Id) c i) s
    (and_right (within 1 63 (length s) && (letter (get_or s 0 0) || eqb (get_or s 0 0) underscore)) (every (member Id) s) e)
