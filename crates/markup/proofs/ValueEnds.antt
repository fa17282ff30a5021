-- Where a value ends: at the next quote mark of its kind.
-- Assumes nothing.
use Prim.Native.Nat.{ℕ, ◌+◌, ◌-◌, ◌≤◌, ◌<◌}
use native.Mathlib.Omega.{arith}
use mathlib.Core.Path.{◌≡◌, refl, sym, ap, ◌∙◌}
use mathlib.Core.Bool.{Bool, true, false, not, ◌&&◌, false≢true}
use mathlib.Core.List.{List}
use lib.Dec.{ltb}
use lib.ListN.{length, get_or, take, drop, length-drop}
use lib.Seq.{drop-drop}
use borrow.Author.Tests.{eq-eqb, ne_eqb, lt-ltb, le-ltb, ltb-true, ltb-false}
use Rattle.std.specs.Prelude.{Some, None}
use Rattle.base.specs.Buffer.{part}
use Rattle.base.proofs.Bools.{and_false, and_right_true}
use Rattle.base.proofs.Lists.{get_or_rest}
use Rattle.chars.specs.Lists.{index_of, lacks}
use Rattle.markup.specs.Marks.{quote_mark, quotable}
use Rattle.markup.specs.Tags.{HasNot, has, valued}
use Rattle.markup.specs.Walks.{Reached, ValueEnd}
use Rattle.markup.proofs.Rests.{byte_within, index_within}

-- nothing is had where the test fails
has_none : (p : Bool) → p ≡ false → (name raw rest : List ℕ) → has p name raw rest ≡ HasNot
has_none p e name raw rest = rw e

lacks_not : (b : ℕ) (l : List ℕ) → (index_of b l ≡ length l → ⊥) → lacks b l ≡ false
unfolding lacks
lacks_not b l n = ne_eqb (index_of b l) (length l) n

lacks_all : (b : ℕ) (l : List ℕ) → index_of b l ≡ length l → lacks b l ≡ true
unfolding lacks
lacks_all b l e = eq-eqb (index_of b l) (length l) e

-- no value, if it has no mark, or no other one, or holds what it may not
module _ (s : List ℕ) (q b : ℕ) (h : q ≤ length s) (read : b ≡ get_or s q 0) where
  valued_is : (name : List ℕ) → valued name (get_or (drop q s) 0 0) (drop 1 (drop q s)) ≡ valued name b (drop (q + 1) s)
  valued_is name = rw (get_or_rest q s ∙ sym read, drop-drop 1 q s)

  abbrev test : Bool
  test = quote_mark b && not (lacks b (drop (q + 1) s)) && quotable (take (index_of b (drop (q + 1) s)) (drop (q + 1) s))

  none : test ≡ false → ValueEnd s q None
  none f = record { within = tt; is = λ name. valued_is name ∙ has_none test f name _ _ }

  module _ (m : Bool) (e : m ≡ quote_mark b) where
    pub value_unmarked : m ≡ false → ValueEnd s q None
    value_unmarked f = none (rw (sym e ∙ f))

    module _ (t : m ≡ true) where
      pub mark_within : q + 1 ≤ length s
      mark_within =
          let l : q < length s = byte_within s q (λ z. false≢true (ap quote_mark (sym (read ∙ z)) ∙ sym e ∙ t)) in
          omega arith

      module _ (to : ℕ) (found : to ≡ q + 1 + index_of b (drop (q + 1) s)) where
        pub to_within : Reached s (q + 1) to
        to_within = index_within s (q + 1) b to mark_within found

        raw_is : take (to - (q + 1)) (drop (q + 1) s) ≡ take (index_of b (drop (q + 1) s)) (drop (q + 1) s)
        raw_is = let n : to - (q + 1) ≡ index_of b (drop (q + 1) s) = omega arith in ap (λ (k : ℕ). take k (drop (q + 1) s)) n

        behind_is : drop (index_of b (drop (q + 1) s) + 1) (drop (q + 1) s) ≡ drop (to + 1) s
        behind_is =
            let n : q + 1 + (index_of b (drop (q + 1) s) + 1) ≡ to + 1 = omega arith in
            drop-drop (index_of b (drop (q + 1) s) + 1) (q + 1) s ∙ ap (λ (k : ℕ). drop k s) n

        -- another one follows, if it stands within s
        follows : not (lacks b (drop (q + 1) s)) ≡ ltb to (length s)
        follows = go (ltb to (length s)) refl
          where
            n : length (drop (q + 1) s) ≡ length s - (q + 1)
            n = length-drop (q + 1) s

            go : (p : Bool) → ltb to (length s) ≡ p → not (lacks b (drop (q + 1) s)) ≡ p
            go true g = ap not (lacks_not b (drop (q + 1) s) (λ z. omega (arith, ltb-true to (length s) g, found, n, z)))
            go false g = ap not (lacks_all b (drop (q + 1) s) (omega (arith, ltb-false to (length s) g, found, n, to_within, mark_within)))

        some : quotable (take (index_of b (drop (q + 1) s)) (drop (q + 1) s)) ≡ true → (name : List ℕ)
            → valued name b (drop (q + 1) s) ≡ has (ltb to (length s)) name (part (q + 1) (to - (q + 1)) s) (drop (to + 1) s)
        unfolding part
        some g name = rw (g, sym e ∙ t, follows, and_right_true (ltb to (length s)), ← raw_is, behind_is)

        pub value_open : length s ≤ to → ValueEnd s q None
        value_open l =
            none (ap (λ (p : Bool). quote_mark b && p && quotable (take (index_of b (drop (q + 1) s)) (drop (q + 1) s))) (follows ∙ le-ltb to (length s) l)
            ∙ ap (λ (p : Bool). p && quotable (take (index_of b (drop (q + 1) s)) (drop (q + 1) s))) (and_false (quote_mark b)))

        module _ (k : Bool) (f : k ≡ quotable (take (to - (q + 1)) (drop (q + 1) s))) where
          pub value_unquotable : k ≡ false → ValueEnd s q None
          value_unquotable g =
              none (ap (λ (p : Bool). quote_mark b && not (lacks b (drop (q + 1) s)) && p) (ap quotable (sym raw_is) ∙ sym f ∙ g)
              ∙ and_false (quote_mark b && not (lacks b (drop (q + 1) s))))

          pub value_some : to < length s → k ≡ true → ValueEnd s q (Some to)
          value_some l g =
              let r : quotable (take (index_of b (drop (q + 1) s)) (drop (q + 1) s)) ≡ true = ap quotable (sym raw_is) ∙ sym f ∙ g in
              record {
                within = (omega (arith, to_within), l);
                is = λ name. valued_is name ∙ some r name ∙ ap (λ (p : Bool). has p name (part (q + 1) (to - (q + 1)) s) (drop (to + 1) s)) (lt-ltb to (length s) l);
              }
