-- The values of an entry at their places in a stream.
-- Assumes nothing.
use Prim.Native.Nat.{ℕ, ◌-◌}
use native.Mathlib.Omega.{arith}
use mathlib.Core.Path.{◌≡◌, refl, sym, ap, ◌∙◌, subst}
use mathlib.Core.Bool.{Bool, true, false, cond}
use mathlib.Core.List.{List}
use mathlib.Core.Option.{Option}
use lib.ListN.{take, drop}
use Rattle.std.specs.Prelude.{Option as Optional, Some, None, IfSome}
use Rattle.base.specs.Buffer.{part}
use Rattle.chars.specs.Bytes.{ascii}
use Rattle.chars.specs.Lists.{same}
use Rattle.markup.specs.Marks.{unquoted}
use Rattle.markup.specs.Tags.{Attribute}
use Rattle.markup.specs.Walks.{Sought, SpanWithin, found_in}
use Rattle.markup.specs.Entries.{value_in, mode_of, given, namespace}
use Rattle.markup.specs.Streams.{is_namespace}
use Rattle.markup.specs.EntryPlaces.{meant, of_value, given_at, ValueWithin, Valued, mode_number}
use Rattle.markup.specs.declared.attributes.Span.{Span}
use Rattle.markup.specs.declared.entries.Kind.{Kind}
use Rattle.markup.specs.declared.entries.Value.{Value}
use Rattle.markup.specs.declared.entries.Mode.TheVariants.{Internal, External, Neither}

-- THE VALUE of an attribute that was looked for
module _ (s : List ℕ) (at : ℕ) (a : Option Attribute) (r : Optional Span) (p : Sought s at a r) where
  pub value_missing : r ≡ None → Valued s (value_in a) None
  value_missing e = record { within = tt; is = ap value_in (sym (ap (found_in s) e) ∙ p.is) }

  pub value_given : (sp : Span) → r ≡ Some sp → Valued s (value_in a) (Some (record { from = sp.from; to = sp.to }))
  value_given sp e =
      let w : SpanWithin s at sp = subst (λ (x : Optional Span). IfSome x (SpanWithin s at)) e p.within in
      record { within = (w.3, omega (arith, w.4, w.5)); is = ap value_in (sym (ap (found_in s) e) ∙ p.is) }

-- what a value at known places is
module _ (s : List ℕ) (o : Option (List ℕ)) (r : Optional Value) (p : Valued s o r) where
  pub valued_not : r ≡ None → o ≡ of_value s None
  valued_not e = sym p.is ∙ ap (of_value s) e

  module _ (v : Value) (e : r ≡ Some v) where
    pub valued_as : o ≡ of_value s (Some v)
    valued_as = sym p.is ∙ ap (of_value s) e

    pub valued_within : ValueWithin s v
    valued_within = subst (λ (x : Optional Value). IfSome x (ValueWithin s)) e p.within

  pub valued_given : given_at r ≡ given o
  valued_given = go r ∙ ap given p.is
    where
      go : (x : Optional Value) → given_at x ≡ given (of_value s x)
      go (Some v) = refl
      go None = refl

-- WHAT IT TELLS: it stands at v
module _ (s : List ℕ) (o : Optional Value) (v : Value) (e : o ≡ Some v) where
  pub value_within : IfSome o (ValueWithin s) → ValueWithin s v
  value_within w = subst (λ (x : Optional Value). IfSome x (ValueWithin s)) e w

  tells : (t : List ℕ) (b : Bool) → b ≡ same (unquoted 0 (take (v.to - v.from) (drop v.from s))) t → same (meant s v) t ≡ b
  unfolding part
  tells t b f = sym f

  mode_is : mode_of (of_value s o) ≡ cond (same (meant s v) (ascii "Internal")) 0 (cond (same (meant s v) (ascii "External")) 1 2)
  mode_is = ap (λ (x : Optional Value). mode_of (of_value s x)) e

  -- the mode, by the tests of the code in its order
  module _ (b : Bool) (f : b ≡ same (unquoted 0 (take (v.to - v.from) (drop v.from s))) (ascii "Internal")) where
    pub mode_internal : b ≡ true → mode_number Internal ≡ mode_of (of_value s o)
    mode_internal y = sym (mode_is ∙ rw (tells (ascii "Internal") b f, y))

    module _ (y : b ≡ false) (d : Bool) (g : d ≡ same (unquoted 0 (take (v.to - v.from) (drop v.from s))) (ascii "External")) where
      mode_not : mode_of (of_value s o) ≡ cond d 1 2
      mode_not = mode_is ∙ rw (tells (ascii "Internal") b f, y, tells (ascii "External") d g)

      pub mode_external : d ≡ true → mode_number External ≡ mode_of (of_value s o)
      mode_external z = sym (mode_not ∙ ap (λ (x : Bool). cond x 1 2) z)

      pub mode_neither : d ≡ false → mode_number Neither ≡ mode_of (of_value s o)
      mode_neither z = sym (mode_not ∙ ap (λ (x : Bool). cond x 1 2) z)

  -- the namespace of a kind of stream
  pub namespace_is : (kind K : Kind) → kind ≡ K → (b : Bool) → b ≡ same (unquoted 0 (take (v.to - v.from) (drop v.from s))) (namespace K) →
      b ≡ is_namespace kind (of_value s o)
  namespace_is kind K k b f =
      sym (ap (λ (x : Optional Value). is_namespace kind (of_value s x)) e ∙ ap (λ (x : Kind). is_namespace x (of_value s (Some v))) k ∙ tells (namespace K) b f)
