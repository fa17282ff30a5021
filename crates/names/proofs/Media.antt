-- A media type, judged: two tokens from a position on, and the stretches between semicolons one after the other.
-- Assumes nothing.
use mathlib.Core.Path.{◌≡◌, refl, sym, ap, ◌∙◌}
use mathlib.Core.Bool.{Bool, true, false, not, ◌&&◌, ◌||◌, cond, false≢true}
use mathlib.Core.List.{List, [], ◌∷◌}
use mathlib.Core.Logic.{⊎_elim}
use Prim.Native.Nat.{ℕ, suc, ◌+◌, ◌≤◌, ◌<◌}
use native.Mathlib.Nat.{eq-or-lt_of_le}
use native.Mathlib.Omega.{arith}
use lib.Dec.{eqb, ltb}
use lib.ListN.{length, drop, get_or, length-drop}
use lib.Seq.{take-length, drop-drop, get_or-drop}
use borrow.Author.Tests.{ltb-true, eqb-true, eqb-false, eq-eqb, ne_eqb, lt-ltb, not-false}
use Rattle.chars.specs.Bytes.{slash, semicolon, equals_sign, member}
use Rattle.chars.specs.Lists.{index_of, first_not, split, all}
use Rattle.chars.specs.declared.search.Alphabet.TheVariants.{Token}
use Rattle.base.proofs.Bools.{or_false_left, or_false_right, passing, not_passing}
use Rattle.chars.proofs.Searches.{first_le, index_le}
use Rattle.chars.proofs.Splits.{split_last, split_more, split_some}
use Rattle.names.specs.Types.{token_pair, type_and_parameters}
use Rattle.std.specs.Prelude.{Option, Some, None}
use Rattle.std.specs.Option.{option_map, is_some, unwrap_or}
use Rattle.names.specs.Reading.{Parts, stretch, pair_length}
use Rattle.names.proofs.Tokens.{first_end, second_end, PairRead, pair_read, pair_made}

pair_length_lem : (b : ℕ) (u : List ℕ) (q : Bool) → token_pair b (stretch u) ≡ q → pair_length b u ≡ cond q (Some (index_of semicolon u)) None
unfolding pair_length
pair_length_lem b u q e = rw e

module _ (b : ℕ) (h : Parts b) where
  -- what is not read so has no pair
  unread : (u : List ℕ) → (PairRead b u → ⊥) → pair_length b u ≡ None
  unread u f = pair_length_lem b u false (not_passing (token_pair b (stretch u)) (λ e. f (pair_read b h u e)))

  -- the token from the position `from` on ends at i, the one from i + 1 on at e
  module _ (s : List ℕ) (from i e : ℕ) (here : i ≡ from + first_end (drop from s)) (there : e ≡ i + 1 + first_not (member Token) (drop (i + 1) s)) where
    first_byte : get_or (drop from s) (first_end (drop from s)) 0 ≡ get_or s i 0
    first_byte = get_or-drop from s (first_end (drop from s)) 0 ∙ ap (λ (n : ℕ). get_or s n 0) (sym here)

    second_is : e ≡ from + second_end (drop from s)
    second_is =
        let n : i + 1 ≡ from + (first_end (drop from s) + 1) = omega arith in
        let r : drop (i + 1) s ≡ drop (first_end (drop from s) + 1) (drop from s) = ap (λ (k : ℕ). drop k s) n ∙ sym (drop-drop (first_end (drop from s) + 1) from s) in
        there ∙ ap (λ (l : List ℕ). i + 1 + first_not (member Token) l) r ∙ omega arith

    second_byte : get_or (drop from s) (second_end (drop from s)) 0 ≡ get_or s e 0
    second_byte = get_or-drop from s (second_end (drop from s)) 0 ∙ ap (λ (n : ℕ). get_or s n 0) (sym second_is)

    read_not : (PairRead b (drop from s) → ⊥) → None ≡ option_map (λ (n : ℕ). from + n) (pair_length b (drop from s))
    read_not f = sym (ap (option_map (λ (n : ℕ). from + n)) (unread (drop from s) f))

    module _ (x : ℕ) (read : x ≡ get_or s i 0) where
      pub first_missing : (eqb i from || not (eqb x b)) ≡ true → None ≡ option_map (λ (n : ℕ). from + n) (pair_length b (drop from s))
      first_missing t = read_not no
        where
          no : PairRead b (drop from s) → ⊥
          no r =
              let f : (eqb i from || not (eqb x b)) ≡ false = rw (ne_eqb i from (λ q. omega (arith, r.some)), eq-eqb x b (read ∙ sym first_byte ∙ r.parted)) in
              false≢true (sym f ∙ t)

      pub first_within : (eqb i from || not (eqb x b)) ≡ false → i ≤ length s
      first_within t =
          omega (arith, eqb-false i from (or_false_left (eqb i from) _ t), first_le (λ (c : ℕ). not (member Token c)) (drop from s), length-drop from s)

      module _ (y : ℕ) (last : y ≡ get_or s e 0) where
        pub second_missing : (eqb e (i + 1) || (ltb e (length s) && not (eqb y semicolon))) ≡ true → None ≡ option_map (λ (n : ℕ). from + n) (pair_length b (drop from s))
        second_missing t = read_not (λ r. false≢true (sym (no r (ltb e (length s)) refl) ∙ t))
          where
            no : PairRead b (drop from s) → (q : Bool) → ltb e (length s) ≡ q → (eqb e (i + 1) || (q && not (eqb y semicolon))) ≡ false
            no r true q =
                let l : second_end (drop from s) < length (drop from s) = omega (arith, ltb-true e (length s) q, second_is, length-drop from s) in
                rw (ne_eqb e (i + 1) (λ z. omega (arith, r.more, second_is)), eq-eqb y semicolon (last ∙ sym second_byte ∙ r.ended l))
            no r false q = rw (ne_eqb e (i + 1) (λ z. omega (arith, r.more, second_is)))

        pub pair_found : (eqb i from || not (eqb x b)) ≡ false → (eqb e (i + 1) || (ltb e (length s) && not (eqb y semicolon))) ≡ false → Some e ≡ option_map (λ (n : ℕ). from + n) (pair_length b (drop from s))
        pair_found t v = ap Some second_is ∙ ap (option_map (λ (n : ℕ). from + n)) (sym (pair_made b h (drop from s) seen))
          where
            ends : ltb e (length s) ≡ true → not (eqb y semicolon) ≡ false
            ends q = ap (λ (z : Bool). z && not (eqb y semicolon)) (sym q) ∙ or_false_right (eqb e (i + 1)) _ v

            seen : PairRead b (drop from s)
            seen = record {
              some = omega (arith, eqb-false i from (or_false_left (eqb i from) _ t));
              parted = first_byte ∙ sym read ∙ eqb-true x b (not-false _ (or_false_right (eqb i from) _ t));
              more = omega (arith, second_is, eqb-false e (i + 1) (or_false_left (eqb e (i + 1)) _ v));
              ended = λ l. second_byte ∙ sym last ∙ eqb-true y semicolon (not-false _ (ends (lt-ltb e (length s) (omega (arith, l, second_is, length-drop from s)))));
            }

-- stretches of which b parts the first into tokens, and `=` each other
abbrev pub headed : ℕ → List (List ℕ) → Bool
headed b [] = false
headed b (t ∷ ps) = token_pair b t && all (token_pair equals_sign) ps

pub type_headed : (l : List (List ℕ)) → type_and_parameters l ≡ headed slash l
type_headed [] = refl
type_headed (t ∷ ps) = refl

all_headed : (l : List (List ℕ)) → (l ≡ [] → ⊥) → all (token_pair equals_sign) l ≡ headed equals_sign l
all_headed [] n = absurd (n refl)
all_headed (t ∷ ps) n = refl

-- a walk over them has come to i
module _ (b : ℕ) (h : Parts b) (s : List ℕ) (i : ℕ) (in_s : i ≤ length s) where
  -- the stretch is the last one
  whole_rest : index_of semicolon (drop i s) ≡ length (drop i s) → stretch (drop i s) ≡ drop i s
  whole_rest m = rw (m) (take-length (drop i s))

  -- r tells where the pair ends, if there is one
  pair_told : (r : Option ℕ) (q : Bool) → token_pair b (stretch (drop i s)) ≡ q → r ≡ option_map (λ (n : ℕ). i + n) (pair_length b (drop i s)) →
      r ≡ cond q (Some (i + index_of semicolon (drop i s))) None
  pair_told r true t e = e ∙ ap (option_map (λ (n : ℕ). i + n)) (pair_length_lem b (drop i s) true t)
  pair_told r false t e = e ∙ ap (option_map (λ (n : ℕ). i + n)) (pair_length_lem b (drop i s) false t)

  pub stretches_not : None ≡ option_map (λ (n : ℕ). i + n) (pair_length b (drop i s)) → headed b (split semicolon (drop i s)) ≡ false
  stretches_not z =
      let none : token_pair b (stretch (drop i s)) ≡ false = not_passing _ (λ t. false≢true (ap is_some (pair_told None true t z))) in
      ⊎_elim (λ m. rw (split_last semicolon (drop i s) m, ← whole_rest m, none)) (λ l. rw (split_more semicolon (drop i s) l, none))
      (eq-or-lt_of_le (index_le semicolon (drop i s)))

  module _ (e : ℕ) (here : Some e ≡ option_map (λ (n : ℕ). i + n) (pair_length b (drop i s))) where
    pair_there : token_pair b (stretch (drop i s)) ≡ true
    pair_there = passing _ (λ t. false≢true (sym (ap is_some (pair_told (Some e) false t here))))

    ends_there : e ≡ i + index_of semicolon (drop i s)
    ends_there = ap (λ (o : Option ℕ). unwrap_or o 0) (pair_told (Some e) true pair_there here)

    pub stretches_from : i ≤ e
    stretches_from = omega (arith, ends_there)

    pub stretches_within : e ≤ length s
    stretches_within = omega (arith, ends_there, index_le semicolon (drop i s), length-drop i s)

    pub stretches_last : e ≡ length s → headed b (split semicolon (drop i s)) ≡ true
    stretches_last l =
        let m : index_of semicolon (drop i s) ≡ length (drop i s) = omega (arith, ends_there, length-drop i s) in
        let t : token_pair b (drop i s) ≡ true = ap (token_pair b) (sym (whole_rest m)) ∙ pair_there in
        rw (split_last semicolon (drop i s) m, t)

    pub stretches_more : (e ≡ length s → ⊥) → headed b (split semicolon (drop i s)) ≡ headed equals_sign (split semicolon (drop (e + 1) s))
    stretches_more l =
        let m : index_of semicolon (drop i s) < length (drop i s) = omega (arith, ends_there, stretches_within, length-drop i s) in
        let k : i + suc (index_of semicolon (drop i s)) ≡ e + 1 = omega (arith, ends_there) in
        let d : drop (suc (index_of semicolon (drop i s))) (drop i s) ≡ drop (e + 1) s = drop-drop _ i s ∙ ap (λ (j : ℕ). drop j s) k in
        rw (split_more semicolon (drop i s) m, pair_there, d) (all_headed (split semicolon (drop (e + 1) s)) (split_some semicolon (drop (e + 1) s)))
