-- The entries of a stream, judged one after the other.
-- Assumes nothing.
use Prim.Native.Nat.{ℕ, ◌+◌, ◌-◌, ◌≤◌}
use native.Mathlib.Omega.{arith}
use mathlib.Core.Path.{◌≡◌, refl, sym, ap, ◌∙◌, subst}
use mathlib.Core.List.{List, [], ◌∷◌}
use Rattle.std.specs.Prelude.{Ok, Err}
use Rattle.output.specs.Refusals.{number}
use Rattle.output.specs.declared.refusals.Refusal.{Refusal}
use Rattle.markup.specs.declared.entries.Kind.{Kind}
use Rattle.markup.specs.declared.entries.Kind.TheVariants.{Types, Relationships}
use Rattle.model.specs.Sets.{Bytes, lookup, sum_of}
use Rattle.model.specs.Package.{State, Kind as SetKind, empty, charge, default_kind, override_kind, relationship_kind}
use Rattle.model.specs.Reading.{Entered, entry_refusal, entry_made, entries_refusal}
use Rattle.model.proofs.Refusals.{first_met, first_unmet, first_one}
use Rattle.model.proofs.Numbers.{zero_numbered}
use Rattle.store.specs.Layout.{used_of, cap_of}
use Rattle.store.specs.Packages.{Shape}
use Rattle.contract.specs.Holds.{Holds}
use Rattle.contract.proofs.RowCharges.{used_charge}
use Rattle.contract.proofs.EmptyRows.{empty_holds}
use Rattle.reading.specs.Notes.{shadow_capacity, Blank, Only, Notes, Joined, Beyond, shade_default, shade_override, shade_relationship, shade}
use Rattle.reading.specs.Judging.{AllFielded, JudgedAt, JudgedAll}

-- AN EMPTY SHADOW notes nothing,
none_of : (K : Kind) (C : ℕ) → Only K (empty C)
none_of Types C = refl
none_of Relationships C = (refl, refl)

empty_charge : (C : ℕ) → charge (empty C) ≤ 0
unfolding charge sum_of
empty_charge C = omega arith

blank_notes : (K : Kind) (m : List ℕ) → Blank m → Notes K m (empty shadow_capacity)
blank_notes K m b = record {
  holds = empty_holds shadow_capacity (omega arith) m b.sound b.rows b.capacity b.format;
  capacity = refl;
  only = none_of K shadow_capacity;
  small = omega (arith, empty_charge shadow_capacity);
}

-- and nothing is beside the package
none_joined : {E : Type 0} (kind : SetKind E) (shaded : E → E) (Mine : E → Type 0) (S T : State) → kind.entries T ≡ [] → Joined kind shaded Mine S T S
unfolding lookup
none_joined kind shaded Mine S T e = record { holding = λ x m. rw e refl; counted = rw e (omega arith) }

none_beyond : (source : Bytes) (S : State) (C room : ℕ) → charge S + room ≡ S.capacity → Beyond source S (empty C) S room
none_beyond source S C room e = record {
  left = e;
  defaults = none_joined default_kind shade_default (λ _. Unit {0}) S (empty C) refl;
  overrides = none_joined override_kind shade_override (λ _. Unit {0}) S (empty C) refl;
  relationships = none_joined relationship_kind shade_relationship _ S (empty C) refl;
}

-- SO FAR. Of the entries es the rest are still to be judged, beside a package that holds S; T is what the shadow notes
pub record JudgedTo (source : Bytes) (es rest : List Entered) (room : ℕ) (S T : State) : Type 0 where
  pub after : State
  pub beyond : Beyond source S T after room
  pub is : entries_refusal S es ≡ entries_refusal after rest

pub record JudgedSo (K : Kind) (source : Bytes) (b : List ℕ) (es rest : List Entered) (m : List ℕ) (room : ℕ) : Type 0 where
  pub noted : State
  pub notes : Notes K m noted
  pub fielded : AllFielded rest → AllFielded es
  pub is : (S : State) → Holds b S → JudgedTo source es rest room S noted

pub none_judged : {K : Kind} {source b m : List ℕ} {room : ℕ} (es : List Entered) → Blank m → room + used_of b ≡ cap_of b → JudgedSo K source b es es m room
none_judged {K} {source} {b} {m} {room} es z e = record {
  noted = empty shadow_capacity;
  notes = blank_notes K m z;
  fielded = λ f. f;
  is = λ S h. record {
    after = S;
    beyond = none_beyond source S shadow_capacity room (omega (arith, e, used_charge b S h, h.lies.capacity));
    is = refl;
  };
}

module _ {K : Kind} {source b : List ℕ} {es rest : List Entered} {m : List ℕ} {room : ℕ} (g : JudgedSo K source b es rest m room) where
  pub shadow_shape : Shape m
  shadow_shape = g.notes.holds.lies.sound.shape

  -- all are judged
  pub all_judged : rest ≡ [] → JudgedAll b es 0
  unfolding entries_refusal
  all_judged q = record {
    numbered = zero_numbered;
    fielded = λ _. g.fielded (subst AllFielded (sym q) tt);
    is = λ S h. let u = g.is S h in sym (u.is ∙ ap (entries_refusal u.after) q);
  }

  -- the next of them is e: it takes so many bytes
  module _ {l more : List Entered} {e : Entered} (q : rest ≡ e ∷ more) (f : l ≡ e ∷ []) {n : List ℕ} where
    pub next_fits : {size : ℕ} → JudgedAt K source b m n room l (Ok size) → size ≤ room
    next_fits j = (j.is e f).fits g.noted g.notes

    pub next_taken : {size : ℕ} → JudgedAt K source b m n room l (Ok size) → JudgedSo K source b es more n (room - size)
    unfolding entries_refusal
    next_taken j =
        let t = j.is e f in
        record {
          noted = entry_made g.noted (shade e);
          notes = t.noted g.noted g.notes;
          fielded = λ y. g.fielded (subst AllFielded (sym q) (t.fielded, y));
          is = λ S y.
              let u = g.is S y in
              let v = t.is g.noted g.notes S u.after y u.beyond in
              record {
                after = entry_made u.after e;
                beyond = v.1;
                is = u.is ∙ ap (entries_refusal u.after) q ∙ first_unmet (entry_refusal u.after e) _ v.0 ∙ first_one _;
              };
        }

    -- or is refused
    pub next_refused : {r : Refusal} → JudgedAt K source b m n room l (Err r) → JudgedAll b es (number r)
    unfolding entries_refusal
    next_refused j =
        let t = j.is e f in
        record {
          numbered = t.numbered;
          fielded = λ z. absurd (t.some z);
          is = λ S y.
              let u = g.is S y in
              let v = t.is g.noted g.notes S u.after y u.beyond in
              sym (u.is ∙ ap (entries_refusal u.after) q ∙ first_met (entry_refusal u.after e) _ (λ z. t.some (sym v ∙ z)) ∙ v);
        }
