-- The fields of held relationships, and what their targets resolve to.
-- Assumes nothing.
use Prim.Native.Nat.{ℕ, ◌≤◌, ◌<◌}
use mathlib.Core.Path.{◌≡◌, refl, ap, sym, ◌∙◌}
use mathlib.Core.Bool.{Bool, true, false, not, ◌&&◌, cond}
use native.Mathlib.Omega.{arith}
use lib.Dec.{eqb, leb}
use lib.ListN.{length}
use borrow.Author.Tests.{leb-true, eqb-true, eqb-false, eq-eqb, ne_eqb, not-false}
use Rattle.names.specs.Names.{part_name, reserved}
use Rattle.names.specs.Iris.{iri}
use Rattle.targets.specs.Targets.{internal, resolve_path, internal_refusal, target_refusal}
use Rattle.names.proofs.Lengths.{iri_few}
use Rattle.targets.proofs.Judging.{target_few}
use Rattle.model.specs.Fields.{source_field, id_field, relationship_type_field, mode_field, target_field, relationship_fields}
use Rattle.model.specs.Package.{Relationship, relationship_kind}
use Rattle.model.proofs.Refusals.{all_none, unmet}

-- a relationship's fields, one by one
pub record Fielded (r : Relationship) : Type 0 where
  pub source : source_field r.source ≡ 0
  pub id : id_field r.id ≡ 0
  pub type : relationship_type_field r.type ≡ 0
  pub mode : mode_field r.mode ≡ 0
  pub target : target_field r.mode r.source r.target ≡ 0

pub fielded : (r : Relationship) → relationship_kind.fields r ≡ 0 → Fielded r
unfolding relationship_fields
fielded r h =
    let z = all_none _ h in
    record { source = z.0; id = z.1.0; type = z.1.1.0; mode = z.1.1.1.0; target = z.1.1.1.1.0 }

-- a mode is 0 or 1
pub mode_le : (m : ℕ) → mode_field m ≡ 0 → m ≤ 1
mode_le m h =
    let p₈ : 0 < 8 = omega arith in
    leb-true m 1 (not-false (leb m 1) (unmet (not (leb m 1)) 8 p₈ h))

internal_none : (a p r : Bool) → ◌≡◌ {A = ℕ} (cond (a && p) (cond r 5 0) 9) 0 → (a ≡ true) × (p ≡ true) × (r ≡ false)
internal_none true true true h = absurd (omega arith)
internal_none true true false h = (refl, refl, refl)
internal_none true false r h = absurd (omega arith)
internal_none false p r h = absurd (omega arith)

-- an internal target is of that form, and resolves to an unreserved part name
pub internal_target :
    (r : Relationship) → Fielded r → eqb r.mode 1 ≡ false →
    (internal r.target ≡ true) × (part_name (resolve_path r.source r.target) ≡ true) ×
    (reserved (resolve_path r.source r.target) ≡ false)
unfolding target_refusal internal_refusal
internal_target r f h =
    let n : r.mode ≡ 1 → ⊥ = eqb-false r.mode 1 h in
    let b : r.mode ≤ 1 = mode_le r.mode f.mode in
    let z : eqb r.mode 0 ≡ true = eq-eqb r.mode 0 (omega arith) in
    internal_none (internal r.target) (part_name (resolve_path r.source r.target)) (reserved (resolve_path r.source r.target))
    (sym (ap (λ (t : Bool). cond t (internal_refusal r.source r.target) (cond (iri r.target) 0 9)) z) ∙ f.target)

-- a target has 255 bytes at most
pub target_size : (r : Relationship) → Fielded r → length r.target ≤ 255
unfolding target_refusal
target_size r f = go (eqb r.mode 1) refl
  where
    external : (t : Bool) → iri r.target ≡ t → ◌≡◌ {A = ℕ} (cond t 0 9) 0 → length r.target ≤ 255
    external true e z = iri_few r.target e
    external false e z = absurd (omega arith)

    go : (t : Bool) → eqb r.mode 1 ≡ t → length r.target ≤ 255
    go true e =
        let m : r.mode ≡ 1 = eqb-true r.mode 1 e in
        let z : eqb r.mode 0 ≡ false = ne_eqb r.mode 0 (λ y. omega arith) in
        external (iri r.target) refl
        (sym (ap (λ (t : Bool). cond t (internal_refusal r.source r.target) (cond (iri r.target) 0 9)) z) ∙ f.target)
    go false e = target_few r.source r.target (internal r.target) refl (ap not (internal_target r f e).0)
