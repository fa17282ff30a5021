-- Where tags begin and end.
-- Assumes nothing.
use Prim.Native.Nat.{ℕ, ◌+◌, ◌-◌, ◌*◌, ◌%◌, ◌≤◌, ◌<◌}
use native.Mathlib.Omega.{arith}
use mathlib.Core.Path.{◌≡◌, refl, sym, ap, ◌∙◌, subst}
use mathlib.Core.Bool.{Bool, true, false, ◌&&◌}
use mathlib.Core.List.{List, [], ◌∷◌, ◌++◌}
use lib.Dec.{eqb}
use lib.ListN.{length, get_or, drop, length-append}
use lib.Seq.{drop-drop, get_or-drop}
use borrow.Author.Tests.{eq-eqb, ne_eqb}
use Rattle.std.specs.Prelude.{Ok, Err, Some, None}
use Rattle.base.specs.Buffer.{part}
use Rattle.base.proofs.Bools.{and_assoc}
use Rattle.base.proofs.Lists.{get_or_rest}
use Rattle.base.proofs.Parts.{get_or_part, length_part}
use Rattle.chars.specs.Bytes.{ascii}
use Rattle.chars.specs.Lists.{same, begins, last_byte}
use Rattle.markup.specs.Marks.{Outcome, On, Not, either, and_then, expected, after_blanks, name_first, name_at, prefixed}
use Rattle.markup.specs.Tags.{end_tag, opens}
use Rattle.markup.specs.Walks.{Reached, number, Walk, of_walk, Within, Walked, mark_of, EndAt, stops}
use Rattle.markup.specs.declared.marks.Fault.{Fault}
use Rattle.markup.specs.declared.marks.Fault.TheVariants.{Malformed, TooDeep}
use Rattle.markup.proofs.Rests.{stands_within, walked_from}
use Rattle.markup.proofs.NameTexts.{name_part}

-- A START TAG at `at`: x is the byte there, y the next one
module _ (s : List ℕ) (at x : ℕ) (read : x ≡ get_or s at 0) where
  pub opens_not : (x ≡ 60 → ⊥) → eqb x 60 ≡ opens (drop at s)
  opens_not n = rw (get_or_rest at s, ← read, ne_eqb x 60 n)

  pub opens_is : x ≡ 60 → (y : ℕ) → y ≡ get_or s (at + 1) 0 → (b : Bool) → b ≡ name_first y → b ≡ opens (drop at s)
  opens_is e y f b g = rw (get_or_rest at s, ← read, eq-eqb x 60 e, get_or-drop at s 1 0, ← f, g)

-- the place of a name's mark
module _ (s : List ℕ) (at end : ℕ) (h : at < end) (g : end ≤ length s) where
  size : length (part at (end - at) s) ≡ end - at
  size = length_part at (end - at) s (omega arith)

  first_is : get_or (part at (end - at) s) 0 0 ≡ get_or s at 0
  first_is =
      let n : at + 0 ≡ at = omega arith in
      get_or_part at (end - at) s 0 (omega arith) ∙ ap (λ (k : ℕ). get_or s k 0) n

  last_is : last_byte (part at (end - at) s) ≡ get_or s (end - 1) 0
  unfolding last_byte
  last_is =
      let n : at + (end - at - 1) ≡ end - 1 = omega arith in
      rw size (get_or_part at (end - at) s (end - at - 1) (omega arith) ∙ ap (λ (k : ℕ). get_or s k 0) n)

  pub mark_is : (get_or s at 0 * 5 + get_or s (end - 1) 0 * 3 + (end - at) % 64 * 11) % 64 ≡ mark_of (part at (end - at) s)
  mark_is = rw (first_is, last_is, size)

-- THE END OF A START TAG at `at`
module _ (s : List ℕ) (name_end count at : ℕ) (h : at ≤ length s) (t : Bool) (e : t ≡ begins (ascii "/>") (drop at s)) where
  pub empty_end : t ≡ true → EndAt s name_end count at (Some (record { name_end = name_end; count = count; next = at + 2; empty = true }))
  empty_end q =
      let f : begins (ascii "/>") (drop at s) ≡ true = sym e ∙ q in
      let l : at + 2 ≤ length s = stands_within s at (ascii "/>") h f in
      record { within = (refl, refl, omega arith, l); is = λ from. rw (f, drop-drop 2 at s) }

  module _ (n : t ≡ false) (u : Bool) (g : u ≡ begins (ascii ">") (drop at s)) where
    pub open_end : u ≡ true → EndAt s name_end count at (Some (record { name_end = name_end; count = count; next = at + 1; empty = false }))
    open_end q =
        let k : begins (ascii "/>") (drop at s) ≡ false = sym e ∙ n in
        let f : begins (ascii ">") (drop at s) ≡ true = sym g ∙ q in
        let l : at + 1 ≤ length s = stands_within s at (ascii ">") h f in
        record { within = (refl, refl, omega arith, l); is = λ from. rw (k, f, drop-drop 1 at s) }

    pub no_end : u ≡ false → EndAt s name_end count at None
    no_end q =
        let k : begins (ascii "/>") (drop at s) ≡ false = sym e ∙ n in
        let f : begins (ascii ">") (drop at s) ≡ false = sym g ∙ q in
        record { within = tt; is = λ from. rw (k, f) }

-- AN END TAG: its two parts one after the other
begins_both : (a b s : List ℕ) → begins (a ++ b) s ≡ (begins a s && begins b (drop (length a) s))
unfolding begins same
begins_both [] b s = refl
begins_both (x ∷ a) b [] = refl
begins_both (x ∷ a) b (y ∷ s) =
    ap (λ (q : Bool). eqb y x && q) (begins_both a b s) ∙ sym (and_assoc (eqb y x) (begins a s) (begins b (drop (length a) s)))

expected_both : (a b s : List ℕ) → expected (a ++ b) s ≡ either (begins a s) (expected b (drop (length a) s)) (Not 19)
expected_both a b s = rw (begins_both a b s, length-append a b, ← drop-drop (length b) (length a) s) (go (begins a s))
  where
    go : (q : Bool) → either (q && begins b (drop (length a) s)) (On (drop (length b) (drop (length a) s))) (Not 19)
        ≡ either q (expected b (drop (length a) s)) (Not 19)
    go true = refl
    go false = refl

module _ (s : List ℕ) (at : ℕ) (h : at ≤ length s) (name : List ℕ) (b : Bool) (e : b ≡ begins (ascii "</") (drop at s)) where
  end_is : (q : Bool) → b ≡ q → (o : Outcome) → o ≡ expected name (drop (at + 2) s)
      → end_tag name (drop at s) ≡ and_then (either q o (Not 19)) (λ (t : List ℕ). expected (ascii ">") (after_blanks t))
  unfolding end_tag
  end_is q f o g =
      let k : either (begins (ascii "</") (drop at s)) (expected name (drop 2 (drop at s))) (Not 19) ≡ either q o (Not 19) =
      rw (sym e ∙ f, drop-drop 2 at s, g) in
      ap (λ (x : Outcome). and_then x (λ (t : List ℕ). expected (ascii ">") (after_blanks t))) (expected_both (ascii "</") name (drop at s) ∙ k)

  pub end_none : b ≡ false → Walked s at (end_tag name (drop at s)) (Err Malformed)
  end_none f = record { within = tt; is = sym (end_is false f _ refl) }

  module _ (t : b ≡ true) where
    module _ (r : Walk) (v : Walked s (at + 2) (expected name (drop (at + 2) s)) r) where
      after : (o : Outcome) → o ≡ of_walk s r → end_tag name (drop at s) ≡ and_then o (λ (u : List ℕ). expected (ascii ">") (after_blanks u))
      after o f = end_is true t o (f ∙ v.is)

      pub end_off : (n : Fault) → r ≡ Err n → Walked s at (end_tag name (drop at s)) (Err n)
      end_off n f = record { within = tt; is = sym (after (Not (number n)) (ap (of_walk s) (sym f))) }

      module _ (i : ℕ) (f : r ≡ Ok i) where
        pub name_reached : Reached s (at + 2) i
        name_reached = subst (λ (x : Walk). Within s (at + 2) x) f v.within

        pub end_on : (x : ℕ) → Reached s i x × (drop x s ≡ after_blanks (drop i s)) → (w : Walk) → Walked s x (expected (ascii ">") (drop x s)) w
            → Walked s at (end_tag name (drop at s)) w
        end_on x g w k =
            walked_from s at x _ _ (omega (arith, name_reached, g.0))
            (ap (λ (l : List ℕ). expected (ascii ">") l) g.1 ∙ sym (after (On (drop i s)) (ap (of_walk s) (sym f)))) w k

-- WHAT REFUSES A START TAG
module _ (s : List ℕ) (at left : ℕ) (text : Bool) where
  pub deep_stops : left ≡ 0 → Err TooDeep ≡ stops left text (drop at s)
  deep_stops e = rw (eq-eqb left 0 e)

  module _ (n : left ≡ 0 → ⊥) where
    pub text_passes : text ≡ true → Ok tt ≡ stops left text (drop at s)
    text_passes e = rw (ne_eqb left 0 n, e)

    module _ (e : text ≡ false) (end : ℕ) (here : end ≡ at + length (name_at (drop at s))) (b : Bool) (f : b ≡ prefixed (part at (end - at) s)) where
      name_is : prefixed (name_at (drop at s)) ≡ b
      name_is = ap prefixed (name_part s at end here) ∙ sym f

      pub prefix_passes : b ≡ true → Ok tt ≡ stops left text (drop at s)
      prefix_passes q = rw (ne_eqb left 0 n, e, name_is, q)

      pub bare_stops : b ≡ false → Err Malformed ≡ stops left text (drop at s)
      bare_stops q = rw (ne_eqb left 0 n, e, name_is, q)
