-- A put and a drop of a relationship: its fields, and that they are a put and a drop of the set.
-- Assumes nothing.
use Prim.Native.Nat.{ℕ, ◌≤◌, ◌<◌}
use mathlib.Core.Path.{◌≡◌, refl, ap, sym, ◌∙◌}
use mathlib.Core.Bool.{Bool, true, false, not, cond}
use mathlib.Core.List.{List, [], ◌∷◌}
use native.Mathlib.Omega.{arith}
use lib.Dec.{leb}
use lib.ListN.{length}
use borrow.Author.Tests.{not-false, leb-true, le-leb, lt-leb}
use Rattle.chars.specs.FoldedNames.{folded_size}
use Rattle.names.specs.Types.{identifier}
use Rattle.names.specs.Iris.{package_iri}
use Rattle.output.specs.Refusals.{number}
use Rattle.output.specs.declared.refusals.Refusal.{Refusal}
use Rattle.output.proofs.Answering.{number_some}
use Rattle.targets.specs.Targets.{source_refusal, target_refusal, target_refusal_from, mode_number}
use Rattle.targets.specs.declared.targets.TargetMode.{TargetMode}
use Rattle.targets.specs.declared.targets.TargetMode.TheVariants as mode
use Rattle.model.specs.Sets.{Bytes}
use Rattle.model.specs.Fields.{when, first, source_field, id_field, relationship_type_field, mode_field, target_field, relationship_fields}
use Rattle.model.specs.Package.{relationship_key}
use Rattle.model.specs.Puts.{put_relationship_refusal, drop_relationship_refusal}
use Rattle.model.specs.Calls.{PutRelationship, DropRelationship}
use Rattle.model.proofs.Refusals.{first_met, first_unmet, first_one, all_none, unmet}
use Rattle.contract.specs.Rows.{relationship_rows}
use Rattle.contract.proofs.FieldSizes.{source_size}
use Rattle.contract.proofs.SetCalls.{Putting, Dropping}

-- THE KEY
module _ (s i : Bytes) where
  pub key_source : (r : Refusal) → number r ≡ source_refusal s → number r ≡ first (source_field s ∷ id_field i ∷ [])
  key_source r e = e ∙ sym (first_met (source_refusal s) (id_field i ∷ []) (λ z. number_some r (e ∙ z)))

  module _ (e : 0 ≡ source_refusal s) (y : Bool) (ey : y ≡ identifier i) where
    id_is : (t : Bool) → y ≡ t → first (source_field s ∷ id_field i ∷ []) ≡ when (not t) 8
    id_is t f =
        first_unmet (source_refusal s) (id_field i ∷ []) (sym e) ∙ first_one (id_field i)
        ∙ ap (λ (t : Bool). when (not t) 8) (sym ey ∙ f)

    pub key_fine : y ≡ true → 0 ≡ first (source_field s ∷ id_field i ∷ [])
    key_fine f = sym (id_is true f)

    pub key_unidentified : y ≡ false → 8 ≡ first (source_field s ∷ id_field i ∷ [])
    key_unidentified f = sym (id_is false f)

pub key_fits : (s i : Bytes) → 0 ≡ first (source_field s ∷ id_field i ∷ []) → length s ≤ folded_size
key_fits s i e = omega (arith, (source_size s (all_none _ (sym e)).0).1)

-- THE FIELDS
mode_few : (x : TargetMode) → mode_number x ≤ 1
mode_few mode.Internal = omega arith
mode_few mode.External = omega arith

module _ (s i v : Bytes) (m : ℕ) (t : Bytes) where
  abbrev others : List ℕ
  others = relationship_type_field v ∷ mode_field m ∷ target_field m s t ∷ []

  pub fields_source : (r : Refusal) → number r ≡ source_field s → number r ≡ relationship_fields s i v m t
  unfolding relationship_fields
  fields_source r e = e ∙ sym (first_met (source_field s) (id_field i ∷ others) (λ z. number_some r (e ∙ z)))

  -- the source has no refusal; x tells of the id
  module _ (z : source_field s ≡ 0) (x : Bool) (ex : x ≡ identifier i) where
    sourced : relationship_fields s i v m t ≡ first (when (not x) 8 ∷ others)
    unfolding relationship_fields
    sourced = first_unmet (source_field s) (id_field i ∷ others) z ∙ ap (λ (b : Bool). first (when (not b) 8 ∷ others)) (sym ex)

    pub fields_id : not x ≡ true → 8 ≡ relationship_fields s i v m t
    fields_id h = sym (sourced ∙ ap (λ (b : Bool). first (when b 8 ∷ others)) h ∙ first_met 8 others (λ e. omega arith))

    -- y of the type
    module _ (hx : not x ≡ false) (y : Bool) (ey : y ≡ package_iri v) where
      identified : relationship_fields s i v m t ≡ first (when (not y) 8 ∷ mode_field m ∷ target_field m s t ∷ [])
      identified =
          sourced ∙ ap (λ (b : Bool). first (when b 8 ∷ others)) hx ∙ first_unmet 0 others refl
          ∙ ap (λ (b : Bool). first (when (not b) 8 ∷ mode_field m ∷ target_field m s t ∷ [])) (sym ey)

      pub fields_type : not y ≡ true → 8 ≡ relationship_fields s i v m t
      fields_type h =
          sym (identified ∙ ap (λ (b : Bool). first (when b 8 ∷ mode_field m ∷ target_field m s t ∷ [])) h
          ∙ first_met 8 (mode_field m ∷ target_field m s t ∷ []) (λ e. omega arith))

      module _ (hy : not y ≡ false) where
        typed : relationship_fields s i v m t ≡ first (mode_field m ∷ target_field m s t ∷ [])
        typed =
            identified ∙ ap (λ (b : Bool). first (when b 8 ∷ mode_field m ∷ target_field m s t ∷ [])) hy
            ∙ first_unmet 0 (mode_field m ∷ target_field m s t ∷ []) refl

        pub fields_mode : 1 < m → 8 ≡ relationship_fields s i v m t
        fields_mode l =
            sym (typed ∙ ap (λ (b : Bool). first (when (not b) 8 ∷ target_field m s t ∷ [])) (lt-leb m 1 l)
            ∙ first_met 8 (target_field m s t ∷ []) (λ e. omega arith))

        -- x is the mode as it was read
        pub fields_target : (x : TargetMode) (r : ℕ) → mode_number x ≡ m → r ≡ target_refusal_from (mode_number x) s t → r ≡ relationship_fields s i v m t
        fields_target x r e er =
            let n = source_size s z in
            let w : target_refusal_from (mode_number x) s t ≡ target_refusal m s t =
            ap (λ (b : Bool). cond b (target_refusal (mode_number x) s t) 4) (le-leb (length s) 255 n.1)
            ∙ ap (λ (i : ℕ). target_refusal i s t) e in
            er ∙ w
            ∙ sym (typed ∙ ap (λ (b : Bool). first (when (not b) 8 ∷ target_field m s t ∷ [])) (le-leb m 1 (omega (arith, mode_few x, e)))
            ∙ first_unmet 0 (target_field m s t ∷ []) refl ∙ first_one (target_field m s t))

  -- what accepted fields say
  module _ (z : relationship_fields s i v m t ≡ 0) where
    pub source_fits : (0 < length s) × (length s ≤ folded_size)
    unfolding relationship_fields
    source_fits = let l = source_size s (all_none _ z).0 in (l.0, omega (arith, l.1))

    pub mode_small : m ≤ 1
    unfolding relationship_fields
    mode_small = leb-true m 1 (not-false (leb m 1) (unmet (not (leb m 1)) 8 (omega arith) (all_none _ z).1.1.1.0))

-- THE CALLS are a put and a drop of their set
pub putting : (s i v : Bytes) (m : ℕ) (t : Bytes) →
    Putting relationship_rows (PutRelationship s i v m t) (record { source = s; id = i; type = v; mode = m; target = t }) (λ _. [])
unfolding put_relationship_refusal
putting s i v m t = record { refusal = λ S. refl; made = λ S. refl }

pub dropping : (s i : Bytes) → Dropping relationship_rows (DropRelationship s i) (source_field s ∷ id_field i ∷ []) (relationship_key s i)
unfolding drop_relationship_refusal
dropping s i = record { refusal = λ S. refl; made = λ S. refl }
