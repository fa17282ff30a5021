-- Tags at their places in a stream: the entry that one makes, and the root.
-- Assumes nothing.
use Prim.Native.Nat.{ℕ, ◌+◌, ◌-◌}
use mathlib.Core.Path.{◌≡◌, refl, sym, ap, ◌∙◌}
use mathlib.Core.Bool.{Bool, true, false}
use mathlib.Core.List.{List}
use mathlib.Core.Option.{Option, none, some}
use lib.Dec.{eqb}
use lib.ListN.{length, take, drop}
use borrow.Author.Tests.{eq-eqb, ne_eqb}
use Rattle.std.specs.Prelude.{Option as Optional, Some, None}
use Rattle.base.specs.Buffer.{part}
use Rattle.chars.specs.Bytes.{ascii}
use Rattle.chars.specs.Lists.{same}
use Rattle.markup.specs.Tags.{Attribute, attributes_at, own}
use Rattle.markup.specs.Entries.{Entry, SaysRelationship, of_two, of_three, mode_of, given, types_entry, relationship_entry, root_name}
use Rattle.markup.specs.Streams.{is_namespace}
use Rattle.markup.specs.EntryPlaces.{of_value, given_at, mode_number, Valued, says_typed, Entering, value_among, typed_entry, related_entry, EntryAt, RootAt}
use Rattle.markup.specs.declared.entries.Kind.{Kind}
use Rattle.markup.specs.declared.entries.Kind.TheVariants.{Types, Relationships}
use Rattle.markup.specs.declared.entries.Value.{Value}
use Rattle.markup.specs.declared.entries.Mode.{Mode}
use Rattle.markup.specs.declared.entries.Entered.{Entered}
use Rattle.markup.specs.declared.entries.Entered.TheVariants.{Typed, Related}
use Rattle.markup.proofs.EntryValues.{valued_not, valued_as, valued_within, valued_given}

-- no entry
no_entry : (s : List ℕ) (e : Option Entry) → e ≡ none → Entering s e None
no_entry s e z = record { within = tt; is = sym z }

-- DEFAULTS AND OVERRIDES
two_miscounted : (f : List ℕ → List ℕ → Entry) (k : ℕ) → (k ≡ 2 → ⊥) → (u v : Option (List ℕ)) → of_two f k u v ≡ none
two_miscounted f k n none v = refl
two_miscounted f k n (some u) none = refl
two_miscounted f k n (some u) (some v) = rw (ne_eqb k 2 n)

two_without : (f : List ℕ → List ℕ → Entry) (k : ℕ) (u : Option (List ℕ)) → of_two f k u none ≡ none
two_without f k none = refl
two_without f k (some u) = refl

-- n attributes count
module _ (s : List ℕ) (default : Bool) (w : List ℕ) (xs : List Attribute) (n : ℕ) (counted : n ≡ length (own xs)) where
  pub typed_miscounted : (n ≡ 2 → ⊥) → Entering s (typed_entry default w xs) None
  typed_miscounted f =
      no_entry s _ (two_miscounted (says_typed default) (length (own xs)) (λ z. f (counted ∙ z)) (value_among w xs) (value_among (ascii "ContentType") xs))

  module _ (two : n ≡ 2) (r : Optional Value) (p : Valued s (value_among w xs) r) where
    pub typed_keyless : r ≡ None → Entering s (typed_entry default w xs) None
    typed_keyless e =
        no_entry s _ (ap (λ (o : Option (List ℕ)). of_two (says_typed default) (length (own xs)) o (value_among (ascii "ContentType") xs))
        (valued_not s (value_among w xs) r p e))

    module _ (key : Value) (e : r ≡ Some key) (r2 : Optional Value) (p2 : Valued s (value_among (ascii "ContentType") xs) r2) where
      pub typed_typeless : r2 ≡ None → Entering s (typed_entry default w xs) None
      typed_typeless f =
          no_entry s _ (ap (λ (o : Option (List ℕ)). of_two (says_typed default) (length (own xs)) (value_among w xs) o)
          (valued_not s (value_among (ascii "ContentType") xs) r2 p2 f) ∙ two_without (says_typed default) (length (own xs)) (value_among w xs))

      pub typed_is : (media : Value) → r2 ≡ Some media → Entering s (typed_entry default w xs) (Some (Typed default key media))
      typed_is media f =
          record {
            within = (valued_within s _ r p key e, valued_within s _ r2 p2 media f);
            is = sym (rw (
              valued_as s (value_among w xs) r p key e,
              valued_as s (value_among (ascii "ContentType") xs) r2 p2 media f,
              ← counted,
              two,
            ));
          }

-- RELATIONSHIPS
three_miscounted : (f : List ℕ → List ℕ → List ℕ → Entry) (b : Bool) → b ≡ false → (u v w : Option (List ℕ)) → of_three f b u v w ≡ none
three_miscounted f b n none v w = refl
three_miscounted f b n (some u) none w = refl
three_miscounted f b n (some u) (some v) none = refl
three_miscounted f b n (some u) (some v) (some w) = rw n

three_without_second : (f : List ℕ → List ℕ → List ℕ → Entry) (b : Bool) (u w : Option (List ℕ)) → of_three f b u none w ≡ none
three_without_second f b none w = refl
three_without_second f b (some u) w = refl

three_without_third : (f : List ℕ → List ℕ → List ℕ → Entry) (b : Bool) (u v : Option (List ℕ)) → of_three f b u v none ≡ none
three_without_third f b none v = refl
three_without_third f b (some u) none = refl
three_without_third f b (some u) (some v) = refl

-- n attributes count, and k are wanted
module _ (s : List ℕ) (xs : List Attribute) (m : Optional Value) (pm : Valued s (value_among (ascii "TargetMode") xs) m) (n : ℕ) (counted : n ≡ length (own xs))
    (k : ℕ) (wanted : k ≡ 3 + given_at m) where
  abbrev says : List ℕ → List ℕ → List ℕ → Entry
  says id type target = SaysRelationship id type (mode_of (value_among (ascii "TargetMode") xs)) target

  abbrev as_wanted : Bool
  as_wanted = eqb (length (own xs)) (3 + given (value_among (ascii "TargetMode") xs))

  wanted_is : k ≡ 3 + given (value_among (ascii "TargetMode") xs)
  wanted_is = wanted ∙ ap (λ (j : ℕ). 3 + j) (valued_given s (value_among (ascii "TargetMode") xs) m pm)

  pub related_miscounted : (n ≡ k → ⊥) → Entering s (related_entry xs) None
  related_miscounted f =
      no_entry s _ (three_miscounted says as_wanted (ne_eqb _ _ (λ z. f (counted ∙ z ∙ sym wanted_is)))
      (value_among (ascii "Id") xs) (value_among (ascii "Type") xs) (value_among (ascii "Target") xs))

  module _ (all : n ≡ k) (r : Optional Value) (p : Valued s (value_among (ascii "Id") xs) r) where
    counts : as_wanted ≡ true
    counts = eq-eqb _ _ (sym counted ∙ all ∙ wanted_is)

    pub related_idless : r ≡ None → Entering s (related_entry xs) None
    related_idless e =
        no_entry s _ (ap (λ (o : Option (List ℕ)). of_three says as_wanted o (value_among (ascii "Type") xs) (value_among (ascii "Target") xs))
        (valued_not s (value_among (ascii "Id") xs) r p e))

    module _ (id : Value) (e : r ≡ Some id) (r2 : Optional Value) (p2 : Valued s (value_among (ascii "Type") xs) r2) where
      pub related_typeless : r2 ≡ None → Entering s (related_entry xs) None
      related_typeless f =
          no_entry s _ (ap (λ (o : Option (List ℕ)). of_three says as_wanted (value_among (ascii "Id") xs) o (value_among (ascii "Target") xs))
          (valued_not s (value_among (ascii "Type") xs) r2 p2 f)
          ∙ three_without_second says as_wanted (value_among (ascii "Id") xs) (value_among (ascii "Target") xs))

      module _ (iri : Value) (f : r2 ≡ Some iri) (r3 : Optional Value) (p3 : Valued s (value_among (ascii "Target") xs) r3) where
        pub related_targetless : r3 ≡ None → Entering s (related_entry xs) None
        related_targetless g =
            no_entry s _ (ap (λ (o : Option (List ℕ)). of_three says as_wanted (value_among (ascii "Id") xs) (value_among (ascii "Type") xs) o)
            (valued_not s (value_among (ascii "Target") xs) r3 p3 g)
            ∙ three_without_third says as_wanted (value_among (ascii "Id") xs) (value_among (ascii "Type") xs))

        pub related_is : (target : Value) → r3 ≡ Some target → (mode : Mode) → mode_number mode ≡ mode_of (of_value s m) →
            Entering s (related_entry xs) (Some (Related id iri mode target))
        related_is target g mode h =
            let told : mode_number mode ≡ mode_of (value_among (ascii "TargetMode") xs) = h ∙ ap mode_of pm.is in
            record {
              within = (valued_within s _ r p id e, valued_within s _ r2 p2 iri f, valued_within s _ r3 p3 target g);
              is = sym (rw (
                counts,
                valued_as s (value_among (ascii "Id") xs) r p id e,
                valued_as s (value_among (ascii "Type") xs) r2 p2 iri f,
                valued_as s (value_among (ascii "Target") xs) r3 p3 target g,
                ← told,
              ));
            }

-- THE TAG whose name stands from `at` to `end`, with `count` attributes
module _ (s : List ℕ) (at end count : ℕ) where
  named_is : (t : List ℕ) (b : Bool) → b ≡ same (take (end - at) (drop at s)) t → same (part at (end - at) s) t ≡ b
  unfolding part
  named_is t b f = sym f

  module _ (kind : Kind) (k : kind ≡ Types) (b : Bool) (f : b ≡ same (take (end - at) (drop at s)) (ascii "Default")) where
    pub entry_default : b ≡ true → (r : Optional Entered) → Entering s (typed_entry true (ascii "Extension") (attributes_at count (drop end s))) r →
        EntryAt kind s at end count r
    unfolding types_entry
    entry_default y r p = record { within = p.within; is = λ empty. p.is ∙ sym (rw (k, named_is (ascii "Default") b f, y)) }

    module _ (y : b ≡ false) (d : Bool) (g : d ≡ same (take (end - at) (drop at s)) (ascii "Override")) where
      pub entry_override : d ≡ true → (r : Optional Entered) → Entering s (typed_entry false (ascii "PartName") (attributes_at count (drop end s))) r →
          EntryAt kind s at end count r
      unfolding types_entry
      entry_override z r p =
          record { within = p.within; is = λ empty. p.is ∙ sym (rw (k, named_is (ascii "Default") b f, y, named_is (ascii "Override") d g, z)) }

      pub entry_untyped : d ≡ false → EntryAt kind s at end count None
      unfolding types_entry
      entry_untyped z = record { within = tt; is = λ empty. sym (rw (k, named_is (ascii "Default") b f, y, named_is (ascii "Override") d g, z)) }

  module _ (kind : Kind) (k : kind ≡ Relationships) (b : Bool) (f : b ≡ same (take (end - at) (drop at s)) (ascii "Relationship")) where
    pub entry_related : b ≡ true → (r : Optional Entered) → Entering s (related_entry (attributes_at count (drop end s))) r → EntryAt kind s at end count r
    unfolding relationship_entry
    entry_related y r p = record { within = p.within; is = λ empty. p.is ∙ sym (rw (k, named_is (ascii "Relationship") b f, y)) }

    pub entry_unrelated : b ≡ false → EntryAt kind s at end count None
    unfolding relationship_entry
    entry_unrelated y = record { within = tt; is = λ empty. sym (rw (k, named_is (ascii "Relationship") b f, y)) }

  -- the root
  module _ (kind : Kind) (b : Bool) (f : b ≡ same (take (end - at) (drop at s)) (root_name kind)) where
    pub root_unnamed : b ≡ false → RootAt kind s at end count false
    root_unnamed y = record { is = λ empty. sym (rw (named_is (root_name kind) b f, y)) }

    module _ (y : b ≡ true) (n : ℕ) (counted : n ≡ length (own (attributes_at count (drop end s)))) where
      pub root_miscounted : (n ≡ 1 → ⊥) → RootAt kind s at end count false
      root_miscounted z = record { is = λ empty. sym (rw (named_is (root_name kind) b f, y, ← counted, ne_eqb n 1 z)) }

      pub root_is : n ≡ 1 → (v : Optional Value) → Valued s (value_among (ascii "xmlns") (attributes_at count (drop end s))) v →
          (r : Bool) → r ≡ is_namespace kind (of_value s v) → RootAt kind s at end count r
      root_is z v p r g = record { is = λ empty. g ∙ ap (is_namespace kind) p.is ∙ sym (rw (named_is (root_name kind) b f, y, ← counted, z)) }
