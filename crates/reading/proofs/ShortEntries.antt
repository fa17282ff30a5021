-- An entry of which arrays hold the first bytes is judged as the whole entry is.
-- Assumes nothing.
use Prim.Native.Nat.{ℕ}
use mathlib.Core.Path.{◌≡◌, refl, ap, ap₂, sym, ◌∙◌, subst}
use mathlib.Core.Bool.{Bool, true, false}
use mathlib.Core.List.{List, [], ◌∷◌}
use mathlib.Core.Option.{Option, none, some, none-ne-some}
use native.Mathlib.Omega.{arith}
use lib.Dec.{eqb}
use lib.ListN.{take}
use borrow.Author.Tests.{eqb-true, eqb-false}
use Rattle.std.specs.Prelude.{Option as Optional, Some, None, Result, Ok, Err}
use Rattle.output.specs.declared.refusals.Refusal.{Refusal}
use Rattle.markup.specs.Entries.{Entry, SaysDefault, SaysOverride, SaysRelationship}
use Rattle.markup.specs.EntryPlaces.{mode_number, says_typed}
use Rattle.markup.specs.PiecePlaces.{entry_in}
use Rattle.markup.specs.FieldPlaces.{short_typed, short_related, typed_in, related_in, TypedAt, RelatedAt}
use Rattle.markup.specs.declared.entries.Kind.{Kind}
use Rattle.markup.specs.declared.entries.Kind.TheVariants.{Types, Relationships}
use Rattle.markup.specs.declared.fields.TypedFields.{TypedFields}
use Rattle.markup.specs.declared.fields.RelatedFields.{RelatedFields}
use Rattle.model.specs.Sets.{Bytes}
use Rattle.model.specs.Package.{State}
use Rattle.model.specs.Reading.{Entered, ADefault, AnOverride, ARelationship, types_said, relationships_said, entry_refusal}
use Rattle.model.proofs.Refusals.{first_met}
use Rattle.model.proofs.FieldCuts.{default_cut, override_cut, relationship_cut, default_kept, override_kept, relationship_kept}
use Rattle.model.proofs.EntryPuts.{defaults_put, overrides_put, relationships_put}
use Rattle.reading.specs.Judging.{a_default, an_override, a_relationship, fields_of, TakenAs, JudgedAs, JudgedAt}
use Rattle.reading.specs.Entering.{one_of, typed_at, related_at}
use Rattle.reading.proofs.EnteredFields.{typed_as, typed_none, related_none}

-- ALIKE: the fields of both have one refusal, and where that is none they are one entry
pub record Alike (x y : Entered) : Type 0 where
  pub fields : fields_of x ≡ fields_of y
  pub one : fields_of x ≡ 0 → x ≡ y

field_refused : (U : State) (x : Entered) → (fields_of x ≡ 0 → ⊥) → entry_refusal U x ≡ fields_of x
field_refused U (ADefault d) z = defaults_put.refusal U d ∙ first_met _ _ z
field_refused U (AnOverride o) z = overrides_put.refusal U o ∙ first_met _ _ z
field_refused U (ARelationship r) z = relationships_put.refusal U r ∙ first_met _ _ z

refused_alike : (U : State) (x y : Entered) → Alike x y → entry_refusal U x ≡ entry_refusal U y
refused_alike U x y l = go (eqb (fields_of x) 0) refl
  where
    go : (b : Bool) → eqb (fields_of x) 0 ≡ b → entry_refusal U x ≡ entry_refusal U y
    go true e = ap (entry_refusal U) (l.one (eqb-true (fields_of x) 0 e))
    go false e =
        let z = eqb-false (fields_of x) 0 e in
        field_refused U x z ∙ l.fields ∙ sym (field_refused U y (λ f. z (l.fields ∙ f)))

judged_alike : (K : Kind) (source b m n : List ℕ) (room : ℕ) (x y : Entered) → Alike x y → (r : Result ℕ Refusal) →
    JudgedAs K source b m n room x r → JudgedAs K source b m n room y r
judged_alike K source b m n room x y l (Ok size) w = subst (λ (e : Entered). TakenAs K source b m n room e size) (l.one w.fielded) w
judged_alike K source b m n room x y l (Err k) w = record {
  numbered = w.numbered;
  some = w.some;
  is = λ T t S U h u. sym (refused_alike U x y l) ∙ w.is T t S U h u;
}

-- what the only entry of a list is
only : (x y : Entered) → ◌≡◌ {A = List Entered} (x ∷ []) (y ∷ []) → x ≡ y
only x y h = cc

-- TYPES: o is the entry that is said
typed_alike : (o : Option Entry) (d : Bool) (x y : Bytes) → some (says_typed d x y) ≡ short_typed o → (e : Entered) → types_said (one_of o) ≡ e ∷ [] →
    Alike (typed_as d x y) e
unfolding types_said
typed_alike none d x y h e g = absurd (none-ne-some _ (sym h))
typed_alike (some (SaysDefault u v)) true x y h e g =
    let eu : x ≡ take 256 u = cc in
    let ev : y ≡ take 256 v = cc in
    let p = default_cut u v in
    subst (λ (z : Entered). Alike (a_default x y) z) (only (a_default u v) e g)
    (subst (λ (z : Entered). Alike z (a_default u v)) (ap₂ a_default (sym eu) (sym ev))
    (record { fields = p; one = λ z. let k = default_kept u v (sym p ∙ z) in ap₂ a_default k.0 k.1 }))
typed_alike (some (SaysDefault u v)) false x y h e g = let z : ◌≡◌ {A = ℕ} 0 1 = cc in absurd (omega arith)
typed_alike (some (SaysOverride u v)) false x y h e g =
    let eu : x ≡ take 256 u = cc in
    let ev : y ≡ take 256 v = cc in
    let p = override_cut u v in
    subst (λ (z : Entered). Alike (an_override x y) z) (only (an_override u v) e g)
    (subst (λ (z : Entered). Alike z (an_override u v)) (ap₂ an_override (sym eu) (sym ev))
    (record { fields = p; one = λ z. let k = override_kept u v (sym p ∙ z) in ap₂ an_override k.0 k.1 }))
typed_alike (some (SaysOverride u v)) true x y h e g = let z : ◌≡◌ {A = ℕ} 0 1 = cc in absurd (omega arith)
typed_alike (some (SaysRelationship i t m u)) d x y h e g = absurd (none-ne-some _ (sym h))

module _ {s : List ℕ} {at : ℕ} {key media : List ℕ} {r : Optional TypedFields} (t : TypedAt s at key media r) {b m n : List ℕ} {room : ℕ} where
  -- the entry that the arrays hold was judged, so the one that is said was
  pub typed_judged : {v : TypedFields} {c : Bool} → r ≡ Some v → v.default ≡ c → (a : Result ℕ Refusal) →
      JudgedAs Types [] b m n room (typed_as c (take v.key key) (take v.media media)) a →
      JudgedAt Types [] b m n room (typed_at s at) a
  typed_judged {v} {c} e ec a w = record {
    is = λ x g. judged_alike Types [] b m n room (typed_as c (take v.key key) (take v.media media)) x
        (typed_alike (entry_in Types s at) c (take v.key key) (take v.media media)
        (ap (λ (z : Bool). some (says_typed z (take v.key key) (take v.media media))) (sym ec) ∙ ap (typed_in key media) (sym e) ∙ t.is) x g) a w;
  }

  pub typed_missing : r ≡ None → (a : Result ℕ Refusal) → JudgedAt Types [] b m n room (typed_at s at) a
  typed_missing e a = record { is = λ x g. typed_none (entry_in Types s at) (ap (typed_in key media) (sym e) ∙ t.is) x g }

-- RELATIONSHIPS, in the same way
related_alike : (source : Bytes) (o : Option Entry) (x y : Bytes) (mode : ℕ) (w : Bytes) → some (SaysRelationship x y mode w) ≡ short_related o →
    (e : Entered) → relationships_said source (one_of o) ≡ e ∷ [] → Alike (a_relationship source x y mode w) e
unfolding relationships_said
related_alike source none x y mode w h e g = absurd (none-ne-some _ (sym h))
related_alike source (some (SaysDefault u v)) x y mode w h e g = absurd (none-ne-some _ (sym h))
related_alike source (some (SaysOverride u v)) x y mode w h e g = absurd (none-ne-some _ (sym h))
related_alike source (some (SaysRelationship i t k u)) x y mode w h e g =
    let ei : x ≡ take 256 i = cc in
    let et : y ≡ take 256 t = cc in
    let eu : w ≡ take 256 u = cc in
    let ek : mode ≡ k = cc in
    let p = relationship_cut source i t k u in
    subst (λ (z : Entered). Alike (a_relationship source x y mode w) z) (only (a_relationship source i t k u) e g)
    (subst (λ (z : Entered). Alike z (a_relationship source i t k u))
    (sym (ap₂ (λ (a b : Bytes). a_relationship source a b mode w) ei et
    ∙ ap₂ (λ (a : ℕ) (b : Bytes). a_relationship source (take 256 i) (take 256 t) a b) ek eu))
    (record {
      fields = p;
      one = λ z.
          let q = relationship_kept source i t k u (sym p ∙ z) in
          ap₂ (λ (a b : Bytes). a_relationship source a b k (take 256 u)) q.0 q.1 ∙ ap (a_relationship source i t k) q.2;
    }))

module _ {s : List ℕ} {at : ℕ} {id iri target : List ℕ} {r : Optional RelatedFields} (t : RelatedAt s at id iri target r) (source : Bytes) {b m n : List ℕ} {room : ℕ} where
  pub related_judged : {v : RelatedFields} {mode : ℕ} → r ≡ Some v → mode ≡ mode_number v.mode → (a : Result ℕ Refusal) →
      JudgedAs Relationships source b m n room (a_relationship source (take v.id id) (take v.iri iri) mode (take v.target target)) a →
      JudgedAt Relationships source b m n room (related_at source s at) a
  related_judged {v} {mode} e q a w = record {
    is = λ x g. judged_alike Relationships source b m n room (a_relationship source (take v.id id) (take v.iri iri) (mode_number v.mode) (take v.target target)) x
        (related_alike source (entry_in Relationships s at) (take v.id id) (take v.iri iri) (mode_number v.mode) (take v.target target) (ap (related_in id iri target) (sym e) ∙ t.is) x g) a
        (subst (λ (k : ℕ). JudgedAs Relationships source b m n room (a_relationship source (take v.id id) (take v.iri iri) k (take v.target target)) a) q w);
  }

  pub related_missing : r ≡ None → (a : Result ℕ Refusal) → JudgedAt Relationships source b m n room (related_at source s at) a
  related_missing e a = record {
    is = λ x g. related_none source (entry_in Relationships s at) (ap (related_in id iri target) (sym e) ∙ t.is) x g;
  }
