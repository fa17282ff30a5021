-- Which rule of remove_dot_segments applies, from what the tests of the code say.
-- Assumes nothing.
use Prim.Native.Nat.{ℕ, ◌+◌}
use mathlib.Core.Path.{◌≡◌, ap, ◌∙◌}
use mathlib.Core.Bool.{Bool, true, false, ◌||◌}
use mathlib.Core.List.{List}
use lib.ListN.{drop}
use Rattle.chars.specs.Bytes.{ascii, slash}
use Rattle.chars.specs.Lists.{same, index_of, begins}
use Rattle.iri.specs.References.{Up, UpRoot, Root, rule, Finish, Copy, first_segment, Skip, Rule}
use Rattle.iri.specs.Scratch.{rule_end}

module _ (s : List ℕ) (a : Bool) (ea : a ≡ same s (ascii "/..")) where
  pub end_1 : a ≡ true → UpRoot ≡ rule_end s
  unfolding rule_end
  end_1 q = rw (← ea, q)

  module _ (qa : a ≡ false) (b c : Bool) (eb : b ≡ same s (ascii ".")) (ec : c ≡ same s (ascii "..")) where
    pub end_2 : (b || c) ≡ true → Finish ≡ rule_end s
    unfolding rule_end
    end_2 q = rw (← ea, qa, ← eb, ← ec, q)

    pub end_3 : (n : ℕ) → (b || c) ≡ false → n ≡ 1 + index_of slash (drop 1 s) → Copy n ≡ rule_end s
    unfolding rule_end first_segment
    end_3 n q e = rw (← ea, qa, ← eb, ← ec, q) (ap Copy e)

module _ (s : List ℕ) (a : Bool) (ea : a ≡ begins (ascii "../") s) where
  pub rule_1 : a ≡ true → Skip 3 ≡ rule s
  unfolding rule
  rule_1 q = rw (← ea, q)

  module _ (qa : a ≡ false) (b : Bool) (eb : b ≡ begins (ascii "./") s) where
    pub rule_2 : b ≡ true → Skip 2 ≡ rule s
    unfolding rule
    rule_2 q = rw (← ea, qa, ← eb, q)

    module _ (qb : b ≡ false) (c : Bool) (ec : c ≡ begins (ascii "/./") s) where
      pub rule_3 : c ≡ true → Skip 2 ≡ rule s
      unfolding rule
      rule_3 q = rw (← ea, qa, ← eb, qb, ← ec, q)

      module _ (qc : c ≡ false) (d : Bool) (ed : d ≡ same s (ascii "/.")) where
        pub rule_4 : d ≡ true → Root ≡ rule s
        unfolding rule
        rule_4 q = rw (← ea, qa, ← eb, qb, ← ec, qc, ← ed, q)

        module _ (qd : d ≡ false) (e : Bool) (ee : e ≡ begins (ascii "/../") s) where
          pub rule_5 : e ≡ true → Up 3 ≡ rule s
          unfolding rule
          rule_5 q = rw (← ea, qa, ← eb, qb, ← ec, qc, ← ed, qd, ← ee, q)

          pub rule_6 : (r : Rule) → e ≡ false → r ≡ rule_end s → r ≡ rule s
          unfolding rule rule_end
          rule_6 r q f = f ∙ rw (← ea, qa, ← eb, qb, ← ec, qc, ← ed, qd, ← ee, q)
