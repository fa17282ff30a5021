-- The fields that arrays hold of an entry: where they are accepted, the arrays hold all of them.
-- Assumes nothing.
use Prim.Native.Nat.{ℕ, ◌≤◌, ◌<◌}
use native.Mathlib.Omega.{arith}
use mathlib.Core.Path.{◌≡◌, refl, sym, ap, ap₂, ◌∙◌, subst}
use mathlib.Core.Bool.{Bool, true, false}
use mathlib.Core.List.{List, [], ◌∷◌}
use mathlib.Core.Option.{Option, none, some, none-ne-some}
use lib.ListN.{length, take}
use Rattle.std.specs.Prelude.{Option as Optional, Some, None, IfSome}
use Rattle.chars.specs.FoldedNames.{folded_size}
use Rattle.markup.specs.Entries.{Entry, SaysDefault, SaysOverride, SaysRelationship}
use Rattle.markup.specs.EntryPlaces.{mode_number, says_typed}
use Rattle.markup.specs.PiecePlaces.{entry_in}
use Rattle.markup.specs.FieldPlaces.{typed_in, short_typed, TypedFits, TypedAt, related_in, short_related, RelatedFits, RelatedAt}
use Rattle.markup.specs.declared.entries.Kind.TheVariants.{Types, Relationships}
use Rattle.markup.specs.declared.fields.TypedFields.{TypedFields}
use Rattle.markup.specs.declared.fields.RelatedFields.{RelatedFields}
use Rattle.model.specs.Sets.{Bytes}
use Rattle.model.specs.Reading.{Entered, types_said, relationships_said}
use Rattle.model.proofs.FieldCuts.{default_kept, override_kept, relationship_kept}
use Rattle.types.proofs.TypeCalls.{default_fits, override_fits}
use Rattle.relationships.proofs.RelationshipCalls.{source_fits, mode_small}
use Rattle.reading.specs.Judging.{a_default, an_override, a_relationship, fields_of}
use Rattle.reading.specs.Entering.{one_of, typed_at, related_at, FieldedAt, Added}

-- the Default or the Override of these fields
abbrev pub typed_as : Bool → Bytes → Bytes → Entered
typed_as true key type = a_default key type
typed_as false key type = an_override key type

-- no entry, none to be put in
none_one : (e : Entered) → ◌≡◌ {A = List Entered} [] (e ∷ []) → {A : Type 0} → A
none_one e h = let z : ◌≡◌ {A = ℕ} 0 1 = cc in absurd (omega arith)

-- TYPES. o is the entry that is said; the arrays have x and y of it
typed_whole : (o : Option Entry) (d : Bool) (x y : Bytes) → some (says_typed d x y) ≡ short_typed o → FieldedAt (types_said (one_of o)) →
    types_said (one_of o) ≡ typed_as d x y ∷ []
unfolding types_said
typed_whole none d x y h f = absurd (none-ne-some _ (sym h))
typed_whole (some (SaysDefault u v)) true x y h f =
    let k = default_kept u v (f (a_default u v) refl) in
    let eu : u ≡ x = sym k.0 ∙ cc in
    let ev : v ≡ y = sym k.1 ∙ cc in
    ap₂ (λ (a b : Bytes). a_default a b ∷ []) eu ev
typed_whole (some (SaysDefault u v)) false x y h f = let z : ◌≡◌ {A = ℕ} 0 1 = cc in absurd (omega arith)
typed_whole (some (SaysOverride u v)) false x y h f =
    let k = override_kept u v (f (an_override u v) refl) in
    let eu : u ≡ x = sym k.0 ∙ cc in
    let ev : v ≡ y = sym k.1 ∙ cc in
    ap₂ (λ (a b : Bytes). an_override a b ∷ []) eu ev
typed_whole (some (SaysOverride u v)) true x y h f = let z : ◌≡◌ {A = ℕ} 0 1 = cc in absurd (omega arith)
typed_whole (some (SaysRelationship i t m u)) d x y h f = absurd (none-ne-some _ (sym h))

typed_fits : (d : Bool) (x y : Bytes) → fields_of (typed_as d x y) ≡ 0 → (0 < length x) × (length x ≤ folded_size)
typed_fits true x y z = default_fits x y z
typed_fits false x y z = override_fits x y z

pub typed_none : (o : Option Entry) → none ≡ short_typed o → (e : Entered) → types_said (one_of o) ≡ e ∷ [] → {A : Type 0} → A
unfolding types_said
typed_none none h e g = none_one e g
typed_none (some (SaysDefault u v)) h e g = absurd (none-ne-some _ h)
typed_none (some (SaysOverride u v)) h e g = absurd (none-ne-some _ h)
typed_none (some (SaysRelationship i t m u)) h e g = none_one e g

module _ {s : List ℕ} {at : ℕ} {key media : List ℕ} {r : Optional TypedFields} (t : TypedAt s at key media r) where
  pub typed_sizes : {v : TypedFields} → r ≡ Some v → (v.key ≤ length key) × (v.media ≤ length media)
  typed_sizes e = let f = subst (λ (x : Optional TypedFields). IfSome x TypedFits) e t.fits in (omega (arith, f.0, t.sizes.0), omega (arith, f.1, t.sizes.1))

  module _ (f : FieldedAt (typed_at s at)) {v : TypedFields} (e : r ≡ Some v) where
    pub typed_is : {b : Bool} → v.default ≡ b → typed_at s at ≡ typed_as b (take v.key key) (take v.media media) ∷ []
    typed_is h =
        typed_whole (entry_in Types s at) v.default (take v.key key) (take v.media media) (ap (typed_in key media) (sym e) ∙ t.is) f
        ∙ ap (λ (a : Bool). typed_as a (take v.key key) (take v.media media) ∷ []) h

    pub typed_key : (0 < length (take v.key key)) × (length (take v.key key) ≤ folded_size)
    typed_key = typed_fits v.default (take v.key key) (take v.media media) (f (typed_as v.default (take v.key key) (take v.media media)) (typed_is refl))

  -- where they hold no entry, there is none
  pub typed_nothing : (p q : List ℕ) → r ≡ None → Added (typed_at s at) p q
  typed_nothing p q e = record { is = λ x g S h z. typed_none (entry_in Types s at) (ap (typed_in key media) (sym e) ∙ t.is) x g }

-- RELATIONSHIPS, in the same way
related_whole : (source : Bytes) (o : Option Entry) (x y : Bytes) (mode : ℕ) (w : Bytes) → some (SaysRelationship x y mode w) ≡ short_related o →
    FieldedAt (relationships_said source (one_of o)) → relationships_said source (one_of o) ≡ a_relationship source x y mode w ∷ []
unfolding relationships_said
related_whole source none x y mode w h f = absurd (none-ne-some _ (sym h))
related_whole source (some (SaysDefault u v)) x y mode w h f = absurd (none-ne-some _ (sym h))
related_whole source (some (SaysOverride u v)) x y mode w h f = absurd (none-ne-some _ (sym h))
related_whole source (some (SaysRelationship i t m u)) x y mode w h f =
    let k = relationship_kept source i t m u (f (a_relationship source i t m u) refl) in
    let ei : i ≡ x = sym k.0 ∙ cc in
    let et : t ≡ y = sym k.1 ∙ cc in
    let eu : u ≡ w = sym k.2 ∙ cc in
    let em : m ≡ mode = cc in
    ap₂ (λ (a b : Bytes). a_relationship source a b m u ∷ []) ei et ∙ ap₂ (λ (a : ℕ) (b : Bytes). a_relationship source x y a b ∷ []) em eu

pub related_none : (source : Bytes) (o : Option Entry) → none ≡ short_related o → (e : Entered) → relationships_said source (one_of o) ≡ e ∷ [] →
    {A : Type 0} → A
unfolding relationships_said
related_none source none h e g = none_one e g
related_none source (some (SaysDefault u v)) h e g = none_one e g
related_none source (some (SaysOverride u v)) h e g = none_one e g
related_none source (some (SaysRelationship i t m u)) h e g = absurd (none-ne-some _ h)

module _ {s : List ℕ} {at : ℕ} {id iri target : List ℕ} {r : Optional RelatedFields} (t : RelatedAt s at id iri target r) where
  pub related_sizes : {v : RelatedFields} → r ≡ Some v → (v.id ≤ length id) × (v.iri ≤ length iri) × (v.target ≤ length target)
  related_sizes e =
      let f = subst (λ (x : Optional RelatedFields). IfSome x RelatedFits) e t.fits in
      let z = t.sizes in
      (omega (arith, f.0, z.0), omega (arith, f.1, z.1), omega (arith, f.2, z.2))

  module _ (source : Bytes) (f : FieldedAt (related_at source s at)) {v : RelatedFields} (e : r ≡ Some v) where
    related_is_lem : related_at source s at ≡ a_relationship source (take v.id id) (take v.iri iri) (mode_number v.mode) (take v.target target) ∷ []
    related_is_lem =
        related_whole source (entry_in Relationships s at) (take v.id id) (take v.iri iri) (mode_number v.mode) (take v.target target) (ap (related_in id iri target) (sym e) ∙ t.is) f

    pub related_is : {mode : ℕ} → mode ≡ mode_number v.mode
        → related_at source s at ≡ a_relationship source (take v.id id) (take v.iri iri) mode (take v.target target) ∷ []
    related_is q = related_is_lem ∙ ap (λ (k : ℕ). a_relationship source (take v.id id) (take v.iri iri) k (take v.target target) ∷ []) (sym q)

    pub related_source : (0 < length source) × (length source ≤ folded_size) × (mode_number v.mode ≤ 1)
    related_source =
        let z = f (a_relationship source (take v.id id) (take v.iri iri) (mode_number v.mode) (take v.target target)) related_is_lem in
        let fits = source_fits source (take v.id id) (take v.iri iri) (mode_number v.mode) (take v.target target) z in
        (fits.0, fits.1, mode_small source (take v.id id) (take v.iri iri) (mode_number v.mode) (take v.target target) z)

  pub related_nothing : (source p q : List ℕ) → r ≡ None → Added (related_at source s at) p q
  related_nothing source p q e = record {
    is = λ x g S h z. related_none source (entry_in Relationships s at) (ap (related_in id iri target) (sym e) ∙ t.is) x g;
  }
