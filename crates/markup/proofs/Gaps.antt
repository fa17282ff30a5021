-- What stands between tags, comment by comment.
-- Assumes nothing.
use Prim.Native.Nat.{ℕ, zero, suc, ◌+◌, ◌≤◌}
use native.Mathlib.Omega.{arith}
use mathlib.Core.Path.{◌≡◌, refl, sym, ap, ◌∙◌, subst}
use mathlib.Core.Bool.{Bool, true, false}
use mathlib.Core.List.{List}
use lib.ListN.{length, drop, length-drop, drop_of_length-le}
use Rattle.std.specs.Prelude.{Ok, Err}
use Rattle.chars.specs.Lists.{begins, index_of}
use Rattle.markup.specs.Marks.{Outcome, On, Not, and_then, after_blanks, comment_mark, comment}
use Rattle.markup.specs.Elements.{after_gap, gaps, between}
use Rattle.markup.specs.Walks.{Reached, number, Walk, of_walk, Within, Walked}
use Rattle.markup.specs.declared.marks.Fault.{Fault}
use Rattle.markup.proofs.Rests.{drop_past, index_within, stands_within}

-- the end of the text or of the blanks at `at`
module _ (s : List ℕ) (at : ℕ) (text : Bool) (r : ℕ) where
  pub text_end : at ≤ length s → text ≡ true → r ≡ at + index_of 60 (drop at s) → Reached s at r × (drop r s ≡ after_gap text (drop at s))
  text_end h t e = (index_within s at 60 r h e, rw t (drop_past s at (index_of 60 (drop at s)) r e))

  pub blank_end : text ≡ false → Reached s at r × (drop r s ≡ after_blanks (drop at s)) → Reached s at r × (drop r s ≡ after_gap text (drop at s))
  blank_end t e = (e.0, rw t e.1)

-- the loop has come to i: what remains to be read, with as many comments as bytes at least, gives the outcome o
pub record Came (s : List ℕ) (i : ℕ) (text : Bool) (o : Outcome) : Type 0 where
  pub calls : ℕ
  pub enough : length s ≤ i + calls
  pub is : o ≡ gaps calls text (drop i s)

pub came_none : (s : List ℕ) (at : ℕ) (text : Bool) → at ≤ length s → Came s at text (between text (drop at s))
came_none s at text h = record { calls = length (drop at s); enough = omega (arith, length-drop at s); is = refl }

-- t is where the text or the blanks at i end
module _ (s : List ℕ) (i : ℕ) (text : Bool) (t : ℕ) (w : Reached s i t) (is : drop t s ≡ after_gap text (drop i s)) where
  gaps_end : (k : ℕ) → length s ≤ i + k → begins comment_mark (drop t s) ≡ false → On (drop t s) ≡ gaps k text (drop i s)
  unfolding gaps
  gaps_end zero h f =
      let a : length s ≤ i = omega arith in
      let b : length s ≤ t = omega arith in
      ap On (drop_of_length-le s b ∙ sym (drop_of_length-le s a))
  gaps_end (suc k) h f = rw (← is, f)

  gaps_step : (k : ℕ) → begins comment_mark (drop t s) ≡ true → gaps (suc k) text (drop i s) ≡ and_then (comment (drop t s)) (λ (u : List ℕ). gaps k text u)
  unfolding gaps
  gaps_step k f = rw (← is, f)

  module _ (o : Outcome) (came : Came s i text o) where
    pub came_end : begins comment_mark (drop t s) ≡ false → On (drop t s) ≡ o
    came_end f = gaps_end came.calls came.enough f ∙ sym came.is

    -- a comment stands there
    module _ (f : begins comment_mark (drop t s) ≡ true) (r : Walk) (v : Walked s (t + 4) (comment (drop t s)) r) where
      step : (k : ℕ) → came.calls ≡ suc k → o ≡ and_then (of_walk s r) (λ (u : List ℕ). gaps k text u)
      step k e =
          came.is ∙ ap (λ (n : ℕ). gaps n text (drop i s)) e ∙ gaps_step k f
          ∙ ap (λ (x : Outcome). and_then x (λ (u : List ℕ). gaps k text u)) (sym v.is)

      some : came.calls ≡ 0 → ⊥
      some e =
          let l : t + 4 ≤ length s = stands_within s t comment_mark w.1 f in
          let n : length s ≤ i + came.calls = came.enough in
          omega arith

      pub came_off : (n : Fault) → r ≡ Err n → Not (number n) ≡ o
      came_off n e = go came.calls refl
        where
          go : (k : ℕ) → came.calls ≡ k → Not (number n) ≡ o
          go zero z = absurd (some z)
          go (suc k) z = sym (step k z ∙ ap (λ (x : Walk). and_then (of_walk s x) (λ (u : List ℕ). gaps k text u)) e)

      pub came_on : (e : ℕ) → r ≡ Ok e → Reached s (t + 4) e × Came s e text o
      came_on e q = (u, go came.calls refl)
        where
          u : Reached s (t + 4) e
          u = subst (λ (x : Walk). Within s (t + 4) x) q v.within

          go : (k : ℕ) → came.calls ≡ k → Came s e text o
          go zero z = absurd (some z)
          go (suc k) z =
              let n : length s ≤ i + came.calls = came.enough in
              record { calls = k; enough = omega (arith, u, w); is = step k z ∙ ap (λ (x : Walk). and_then (of_walk s x) (λ (y : List ℕ). gaps k text y)) q }
