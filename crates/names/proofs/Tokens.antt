-- Tokens, and two of them with a byte between them: made, and read byte by byte.
-- Assumes nothing.
use mathlib.Core.Path.{◌≡◌, refl, sym, ap, subst, ◌∙◌}
use mathlib.Core.Bool.{true, false, not}
use mathlib.Core.List.{List, ◌∷◌, ◌++◌, append_assoc}
use Prim.Native.Nat.{ℕ, ◌+◌, ◌≤◌, ◌<◌}
use native.Mathlib.Omega.{arith}
use lib.Dec.{eqb}
use lib.ListN.{length, take, drop, get_or, length-append, length-drop, take-append-drop}
use lib.Seq.{length-take-le, take-append_seam, drop-append-add, get_or-append_seam, get_or-drop}
use borrow.Author.Tests.{eqb-false, eq-eqb, ne_eqb, not-true}
use Rattle.chars.specs.Bytes.{slash, semicolon, equals_sign, letter, digit, member}
use Rattle.chars.specs.Lists.{every, index_of, first_not}
use Rattle.chars.specs.declared.search.Alphabet.TheVariants.{Token}
use Rattle.base.proofs.Bools.{and_left, and_right, and_true}
use Rattle.base.proofs.Lists.{get_or_seam, get_or_rest}
use Rattle.chars.proofs.Searches.{drop_next, first_le, index_append, every_append, every_imp}
use Rattle.chars.proofs.FirstBytes.{at_index, first_append, first_not_append, every_before}
use Rattle.chars.proofs.UnitBytes.{but, class_but}
use Rattle.names.specs.Types.{token, token_pair}
use Rattle.std.specs.Prelude.{Some}
use Rattle.names.specs.Reading.{Parts, stretch, pair_length}

pub token_some : (s : List ℕ) → token s ≡ true → 0 < length s
unfolding token
token_some s e = omega (arith, eqb-false (length s) 0 (not-true _ (and_left (not (eqb (length s) 0)) (every (member Token) s) e)))

pub token_every : (s : List ℕ) → token s ≡ true → every (member Token) s ≡ true
unfolding token
token_every s e = and_right (not (eqb (length s) 0)) (every (member Token) s) e

token_of : (s : List ℕ) → 0 < length s → every (member Token) s ≡ true → token s ≡ true
unfolding token
token_of s h e = rw (ne_eqb (length s) 0 (λ z. omega arith), e)

pub slash_parts : Parts slash
unfolding member letter digit
slash_parts = record { no_token = refl; no_semicolon = refl }

pub equals_parts : Parts equals_sign
unfolding member letter digit
equals_parts = record { no_token = refl; no_semicolon = refl }

no_semicolon_lem : member Token semicolon ≡ false
unfolding member letter digit
no_semicolon_lem = refl

-- a token, b, a token: taken apart
module _ (b : ℕ) (s : List ℕ) (e : token_pair b s ≡ true) where
  pub first_of_lem : token (take (index_of b s) s) ≡ true
  unfolding token_pair
  first_of_lem = and_left (token (take (index_of b s) s)) (token (drop (index_of b s + 1) s)) e

  pub second_of : token (drop (index_of b s + 1) s) ≡ true
  unfolding token_pair
  second_of = and_right (token (take (index_of b s) s)) (token (drop (index_of b s + 1) s)) e

  pub pair_is : s ≡ take (index_of b s) s ++ b ∷ drop (index_of b s + 1) s
  pair_is =
      let i = index_of b s in
      let l : i < length s = omega (arith, token_some _ second_of, length-drop (i + 1) s) in
      sym (take-append-drop i s) ∙ ap (λ (r : List ℕ). take i s ++ r) (drop_next s i l ∙ ap (λ (c : ℕ). c ∷ drop (i + 1) s) (at_index b s l))

-- where the token ends with which u begins, and where the one ends that begins behind the next byte
abbrev pub first_end : List ℕ → ℕ
first_end u = first_not (member Token) u

abbrev pub second_end : List ℕ → ℕ
second_end u = first_end u + 1 + first_not (member Token) (drop (first_end u + 1) u)

-- what is seen of u where its first stretch is a token, b, a token
pub record PairRead (b : ℕ) (u : List ℕ) : Type 0 where
  pub some : 0 < first_end u
  pub parted : get_or u (first_end u) 0 ≡ b
  pub more : first_end u + 1 < second_end u
  pub ended : second_end u < length u → get_or u (second_end u) 0 ≡ semicolon

-- u cut before and behind its byte k, and j bytes later
pieces : (u : List ℕ) (k j : ℕ) → k < length u → take k u ++ get_or u k 0 ∷ (take j (drop (k + 1) u) ++ drop j (drop (k + 1) u)) ≡ u
pieces u k j l = rw (take-append-drop j (drop (k + 1) u), ← drop_next u k l) (take-append-drop k u)

module _ (b : ℕ) (h : Parts b) where
  -- put together
  pub pair_of : (x y : List ℕ) → token x ≡ true → token y ≡ true → token_pair b (x ++ b ∷ y) ≡ true
  unfolding token_pair
  pair_of x y e f =
      let n : index_of b (x ++ b ∷ y) ≡ length x = index_append b x y (every_imp (member Token) (but b) (class_but (member Token) b h.no_token) x (token_every x e)) in
      rw (n, take-append_seam x (b ∷ y), drop-append-add x (b ∷ y) 1, e, f)

  -- no semicolon stands in it
  pub pair_lacks : (x y : List ℕ) → token x ≡ true → token y ≡ true → every (but semicolon) (x ++ b ∷ y) ≡ true
  unfolding every
  pair_lacks x y e f =
      let t = every_imp (member Token) (but semicolon) (class_but (member Token) semicolon no_semicolon_lem) in
      every_append (but semicolon) x (b ∷ y) (t x (token_every x e)) (and_true (but semicolon b) (every (but semicolon) y) (ap not h.no_semicolon) (t y (token_every y f)))

  -- before z, which a semicolon begins unless it is empty
  module _ (x y z : List ℕ) (e : token x ≡ true) (f : token y ≡ true) (g : 0 < length z → get_or z 0 0 ≡ semicolon) where
    first_ends : first_end (x ++ b ∷ (y ++ z)) ≡ length x
    first_ends = first_not_append (member Token) x (b ∷ (y ++ z)) (token_every x e) (λ l. h.no_token)

    behind : drop (length x + 1) (x ++ b ∷ (y ++ z)) ≡ y ++ z
    behind = drop-append-add x (b ∷ (y ++ z)) 1

    second_ends : second_end (x ++ b ∷ (y ++ z)) ≡ length x + 1 + length y
    second_ends = rw (first_ends, behind, first_not_append (member Token) y z (token_every y f) (λ l. ap (member Token) (g l) ∙ no_semicolon_lem))

    stretch_ends : index_of semicolon ((x ++ b ∷ y) ++ z) ≡ length (x ++ b ∷ y)
    stretch_ends =
        first_append (λ (c : ℕ). eqb c semicolon) (but semicolon) (λ c q. not-true (eqb c semicolon) q) (x ++ b ∷ y) z (pair_lacks x y e f)
        (λ l. eq-eqb _ _ (g l))

    pub read_of : PairRead b (x ++ b ∷ (y ++ z))
    read_of = record {
      some = rw (first_ends) (token_some x e);
      parted = rw (first_ends) (get_or-append_seam x b (y ++ z) 0);
      more = omega (arith, first_ends, second_ends, token_some y f);
      ended = rw (second_ends) (λ l. sym (get_or-drop (length x + 1) _ (length y) 0) ∙ ap (λ (r : List ℕ). get_or r (length y) 0) behind ∙ get_or_seam y z ∙ g (some_left l));
    }
      where
        some_left : length x + 1 + length y < length (x ++ b ∷ (y ++ z)) → 0 < length z
        some_left l = omega (arith, length-append x (b ∷ (y ++ z)), length-append y z)

    pub length_of : pair_length b (x ++ b ∷ (y ++ z)) ≡ Some (length x + 1 + length y)
    unfolding pair_length
    length_of =
        let a : x ++ b ∷ (y ++ z) ≡ (x ++ b ∷ y) ++ z = sym (append_assoc x (b ∷ y) z) in
        let n : length (x ++ b ∷ y) ≡ length x + 1 + length y = length-append x (b ∷ y) ∙ omega arith in
        rw (a, stretch_ends, take-append_seam (x ++ b ∷ y) z, pair_of x y e f, n)

  -- the first stretch of u is such a pair: how u is read
  pub pair_read : (u : List ℕ) → token_pair b (stretch u) ≡ true → PairRead b u
  pair_read u e =
      let m = index_of semicolon u in
      let w = take m u in
      let x = take (index_of b w) w in
      let y = drop (index_of b w + 1) w in
      let z = drop m u in
      let is : x ++ b ∷ (y ++ z) ≡ u = sym (append_assoc x (b ∷ y) z) ∙ ap (λ (l : List ℕ). l ++ z) (sym (pair_is b w e)) ∙ take-append-drop m u in
      let g : 0 < length z → get_or z 0 0 ≡ semicolon = λ l. get_or_rest m u ∙ at_index semicolon u (omega (arith, l, length-drop m u)) in
      subst (PairRead b) is (read_of x y z (first_of_lem b w e) (second_of b w e) g)

  -- and what is read so begins with such a pair
  pub pair_made : (u : List ℕ) → PairRead b u → pair_length b u ≡ Some (second_end u)
  pair_made u r =
      let k = first_end u in
      let v = drop (k + 1) u in
      let j = first_not (member Token) v in
      let x = take k u in
      let y = take j v in
      let z = drop j v in
      let jl : j ≤ length v = first_le (λ (c : ℕ). not (member Token c)) v in
      let kl : k + 1 < length u = omega (arith, r.more, jl, length-drop (k + 1) u) in
      let lx : length x ≡ k = length-take-le k u (omega arith) in
      let ly : length y ≡ j = length-take-le j v jl in
      let is : x ++ b ∷ (y ++ z) ≡ u = ap (λ (c : ℕ). x ++ c ∷ (y ++ z)) (sym r.parted) ∙ pieces u k j (omega arith) in
      let next : get_or z 0 0 ≡ get_or u (second_end u) 0 = get_or_rest j v ∙ get_or-drop (k + 1) u j 0 in
      let g : 0 < length z → get_or z 0 0 ≡ semicolon = λ l. next ∙ r.ended (omega (arith, l, length-drop j v, length-drop (k + 1) u)) in
      let ex : token x ≡ true = token_of x (omega (arith, r.some)) (every_before (member Token) u) in
      let ey : token y ≡ true = token_of y (omega (arith, r.more)) (every_before (member Token) v) in
      ap (pair_length b) (sym is) ∙ length_of x y z ex ey g ∙ rw (lx, ly)
