-- An attribute at its places in a stream.
-- Assumes nothing.
use Prim.Native.Nat.{ℕ, ◌+◌, ◌-◌, ◌≤◌, ◌<◌}
use native.Mathlib.Omega.{arith}
use mathlib.Core.Path.{◌≡◌, refl, sym, ap, ◌∙◌, subst}
use mathlib.Core.Bool.{Bool, true, false, cond}
use mathlib.Core.List.{List, [], ◌∷◌}
use lib.Dec.{eqb}
use lib.ListN.{length, get_or, drop}
use lib.Seq.{drop-drop}
use borrow.Author.Tests.{eq-eqb, ne_eqb}
use Rattle.std.specs.Prelude.{Option as Optional, Some, None, IfSome}
use Rattle.base.specs.Buffer.{part}
use Rattle.base.proofs.Bools.{and_right_true}
use Rattle.base.proofs.Lists.{get_or_rest}
use Rattle.chars.specs.Bytes.{ascii}
use Rattle.chars.specs.Lists.{same, begins}
use Rattle.markup.specs.Marks.{blank, after_blanks, name_at, after_name}
use Rattle.markup.specs.Tags.{Attributed, HasNot, valued, equated, attribute_at, next_attribute}
use Rattle.markup.specs.Walks.{ended_at, ValueEnd, Spanned, SpanWithin}
use Rattle.markup.specs.declared.attributes.Span.{Span}
use Rattle.markup.proofs.Rests.{byte_within}
use Rattle.markup.proofs.NameTexts.{name_part, behind_name, no_name_at, name_at_lem}

begins_equals : (l : List ℕ) → begins (ascii "=") l ≡ eqb (get_or l 0 0) 61
unfolding begins same
begins_equals [] = refl
begins_equals (x ∷ l) = and_right_true (eqb x 61)

-- the name ends at n
module _ (s : List ℕ) (at n : ℕ) (here : n ≡ at + length (name_at (drop at s))) where
  pub attribute_nameless : n ≡ at → Spanned s at (attribute_at (drop at s)) None
  unfolding attribute_at
  attribute_nameless e = record { within = tt; is = rw (no_name_at s at n here e) }

  -- the blanks behind it end at e, and y is the byte there
  module _ (some : n ≡ at → ⊥) (e y : ℕ) (blanks : drop e s ≡ after_blanks (drop n s)) (read : y ≡ get_or s e 0) where
    after_is : after_blanks (after_name (drop at s)) ≡ drop e s
    after_is = ap after_blanks (sym (behind_name s at n here)) ∙ sym blanks

    attribute_equated : attribute_at (drop at s) ≡ equated (part at (n - at) s) (eqb y 61) (drop e s)
    unfolding attribute_at
    attribute_equated = rw (name_at_lem s at n here some, after_is, begins_equals (drop e s), get_or_rest e s, read, name_part s at n here)

    pub attribute_unequated : (y ≡ 61 → ⊥) → Spanned s at (attribute_at (drop at s)) None
    attribute_unequated f = record { within = tt; is = sym (attribute_equated ∙ ap (λ (b : Bool). equated (part at (n - at) s) b (drop e s)) (ne_eqb y 61 f)) }

    -- it is the `=`: a value follows, behind the blanks that end at q
    module _ (equals : y ≡ 61) where
      pub equals_within : e + 1 ≤ length s
      equals_within = let l : e < length s = byte_within s e (λ z. omega (arith, read)) in omega arith

      module _ (q : ℕ) (r : Optional ℕ) (quoted : drop q s ≡ after_blanks (drop (e + 1) s)) (value : ValueEnd s q r) where
        abbrev with_value : Optional ℕ → Attributed
        with_value x = ended_at s q (part at (n - at) s) x

        attribute_valued : attribute_at (drop at s) ≡ with_value r
        attribute_valued =
            attribute_equated ∙ ap (λ (b : Bool). equated (part at (n - at) s) b (drop e s)) (eq-eqb y 61 equals)
            ∙ ap (λ (t : List ℕ). valued (part at (n - at) s) (get_or (after_blanks t) 0 0) (drop 1 (after_blanks t))) (drop-drop 1 e s)
            ∙ ap (λ (t : List ℕ). valued (part at (n - at) s) (get_or t 0 0) (drop 1 t)) (sym quoted)
            ∙ value.is (part at (n - at) s)

        pub attribute_valueless : r ≡ None → Spanned s at (attribute_at (drop at s)) None
        attribute_valueless z = record { within = tt; is = sym (attribute_valued ∙ ap with_value z) }

        pub attribute_given : at ≤ n → n ≤ e → e + 1 ≤ q → (to : ℕ) → r ≡ Some to
            → Spanned s at (attribute_at (drop at s)) (Some (record { name = at; name_end = n; from = q + 1; to = to; next = to + 1 }))
        attribute_given an ne eq to z =
            let past : (q < to) × (to < length s) = subst (λ (x : Optional ℕ). IfSome x (λ k. (q < k) × (k < length s))) z value.within in
            record {
              within = (omega arith, omega arith, omega arith, omega arith, omega arith, omega arith);
              is = sym (attribute_valued ∙ ap with_value z);
            }

-- AN ATTRIBUTE BEHIND BLANKS: y is the byte at `at`
pub span_from : (s : List ℕ) (a b : ℕ) → a ≤ b → (r : Optional Span) → IfSome r (SpanWithin s b) → IfSome r (SpanWithin s a)
span_from s a b h (Some sp) w = (omega arith, w.1, w.2, w.3, w.4, w.5)
span_from s a b h None w = tt

module _ (s : List ℕ) (at y : ℕ) (t : Bool) (read : y ≡ get_or s at 0) (test : t ≡ blank y) where
  next_is : next_attribute (drop at s) ≡ cond t (attribute_at (after_blanks (drop at s))) HasNot
  unfolding next_attribute
  next_is = rw (get_or_rest at s, ← read, ← test)

  pub next_unparted : t ≡ false → Spanned s at (next_attribute (drop at s)) None
  next_unparted e = record { within = tt; is = sym (next_is ∙ ap (λ (b : Bool). cond b (attribute_at (after_blanks (drop at s))) HasNot) e) }

  pub next_parted : (n : ℕ) → at ≤ n → drop n s ≡ after_blanks (drop at s) → t ≡ true → (r : Optional Span) → Spanned s n (attribute_at (drop n s)) r →
      Spanned s at (next_attribute (drop at s)) r
  next_parted n h b e r p =
      record {
        within = span_from s at n h r p.within;
        is = p.is ∙ ap attribute_at b ∙ sym (next_is ∙ ap (λ (x : Bool). cond x (attribute_at (after_blanks (drop at s))) HasNot) e);
      }
