-- No field has more than 255 bytes, so the first 256 of a text tell how it is judged, and are all of it where it is accepted.
-- Assumes nothing.
use Prim.Native.Nat.{ℕ, ◌≤◌, ◌<◌}
use native.Mathlib.Omega.{arith}
use mathlib.Core.Path.{◌≡◌, refl, sym, ap, ◌∙◌}
use mathlib.Core.Bool.{Bool, true, false, not, cond}
use lib.Dec.{leb, eqb}
use lib.ListN.{length, take}
use lib.Seq.{take_all, length-take-le}
use borrow.Author.Tests.{leb-true, leb-false, not-false}
use Rattle.base.proofs.Bools.{passing, not_passing}
use Rattle.names.specs.Names.{part_name}
use Rattle.names.specs.Types.{media_type, extension, identifier}
use Rattle.names.specs.Iris.{iri, package_iri}
use Rattle.names.proofs.Lengths.{name_few, extension_size, media_type_size, identifier_size, iri_few, package_few}
use Rattle.targets.specs.Targets.{internal, internal_refusal, target_refusal}
use Rattle.model.specs.Sets.{Bytes}
use Rattle.model.specs.Fields.{when, default_fields, override_fields, relationship_fields}
use Rattle.model.proofs.Refusals.{all_none, unmet}

-- what passes a test has 255 bytes at most
abbrev Few : (Bytes → Bool) → Type 0
Few p = (s : Bytes) → p s ≡ true → length s ≤ 255

media_few : Few media_type
media_few s e = omega (arith, (media_type_size s e).1)

cut : (p : Bytes → Bool) → Few p → (s : Bytes) → p (take 256 s) ≡ p s
cut p few s = go (leb (length s) 256) refl
  where
    go : (b : Bool) → leb (length s) 256 ≡ b → p (take 256 s) ≡ p s
    go true h = ap p (take_all 256 s (leb-true (length s) 256 h))
    go false h =
        let l = leb-false (length s) 256 h in
        let n : length (take 256 s) ≡ 256 = length-take-le 256 s (omega arith) in
        not_passing (p (take 256 s)) (λ e. omega (arith, few (take 256 s) e, n)) ∙ sym (not_passing (p s) (λ e. omega (arith, few s e, l)))

pub default_cut : (e t : Bytes) → default_fields (take 256 e) (take 256 t) ≡ default_fields e t
unfolding default_fields
default_cut e t =
    rw (cut extension (λ s q. let n = extension_size s q in omega arith) e, cut media_type media_few t)

pub override_cut : (n t : Bytes) → override_fields (take 256 n) (take 256 t) ≡ override_fields n t
unfolding override_fields
override_cut n t = rw (cut part_name name_few n, cut media_type media_few t)

-- a target of more bytes is no IRI, so it is neither external nor internal
target_cut : (mode : ℕ) (source t : Bytes) → target_refusal mode source (take 256 t) ≡ target_refusal mode source t
unfolding target_refusal internal_refusal internal
target_cut mode source t = go (leb (length t) 256) refl
  where
    go : (b : Bool) → leb (length t) 256 ≡ b → target_refusal mode source (take 256 t) ≡ target_refusal mode source t
    go true h = ap (target_refusal mode source) (take_all 256 t (leb-true (length t) 256 h))
    go false h =
        let l = leb-false (length t) 256 h in
        let far : iri t ≡ false = not_passing (iri t) (λ e. omega (arith, iri_few t e, l)) in
        rw (cut iri iri_few t ∙ far, far)

pub relationship_cut : (source id type : Bytes) (mode : ℕ) (target : Bytes) →
    relationship_fields source (take 256 id) (take 256 type) mode (take 256 target) ≡ relationship_fields source id type mode target
unfolding relationship_fields
relationship_cut source id type mode target =
    rw (cut identifier (λ s q. let n = identifier_size s q in omega arith) id, cut package_iri package_few type, target_cut mode source target)

-- ACCEPTED FIELDS have 255 bytes at most
few_passed : (p : Bytes → Bool) → Few p → (s : Bytes) (n : ℕ) → 0 < n → when (not (p s)) n ≡ 0 → length s ≤ 255
few_passed p few s n l z = few s (not-false (p s) (unmet (not (p s)) n l z))

pub default_few : (e t : Bytes) → default_fields e t ≡ 0 → (length e ≤ 255) × (length t ≤ 255)
unfolding default_fields
default_few e t z =
    let n = all_none _ z in
    (few_passed extension (λ s q. omega (arith, (extension_size s q).1)) e 7 (omega arith) n.0, few_passed media_type media_few t 7 (omega arith) n.1.0)

pub override_few : (n t : Bytes) → override_fields n t ≡ 0 → (length n ≤ 255) × (length t ≤ 255)
unfolding override_fields
override_few n t z =
    let k = all_none _ z in
    (few_passed part_name name_few n 4 (omega arith) k.0, few_passed media_type media_few t 7 (omega arith) k.1.0)

-- a target is an IRI, whatever its mode
target_iri : (mode : ℕ) (source t : Bytes) → target_refusal mode source t ≡ 0 → iri t ≡ true
unfolding target_refusal internal_refusal internal
target_iri mode source t z = passing (iri t) (λ f. nine (eqb mode 0) (rw f at z))
  where
    nine : (b : Bool) → ◌≡◌ {A = ℕ} (cond b 9 9) 0 → ⊥
    nine true e = omega arith
    nine false e = omega arith

pub relationship_few : (source id type : Bytes) (mode : ℕ) (target : Bytes) → relationship_fields source id type mode target ≡ 0 →
    (length id ≤ 255) × (length type ≤ 255) × (length target ≤ 255)
unfolding relationship_fields
relationship_few source id type mode target z =
    let n = all_none _ z in (
      few_passed identifier (λ s q. omega (arith, (identifier_size s q).1)) id 8 (omega arith) n.1.0,
      few_passed package_iri package_few type 8 (omega arith) n.1.1.0,
      iri_few target (target_iri mode source target n.1.1.1.1.0),
    )

-- so their first 256 bytes are all of them
pub default_kept : (e t : Bytes) → default_fields e t ≡ 0 → (take 256 e ≡ e) × (take 256 t ≡ t)
default_kept e t z = let n = default_few e t z in (take_all 256 e (omega (arith, n.0)), take_all 256 t (omega (arith, n.1)))

pub override_kept : (n t : Bytes) → override_fields n t ≡ 0 → (take 256 n ≡ n) × (take 256 t ≡ t)
override_kept n t z = let k = override_few n t z in (take_all 256 n (omega (arith, k.0)), take_all 256 t (omega (arith, k.1)))

pub relationship_kept : (source id type : Bytes) (mode : ℕ) (target : Bytes) → relationship_fields source id type mode target ≡ 0 →
    (take 256 id ≡ id) × (take 256 type ≡ type) × (take 256 target ≡ target)
relationship_kept source id type mode target z =
    let n = relationship_few source id type mode target z in
    (take_all 256 id (omega (arith, n.0)), take_all 256 type (omega (arith, n.1)), take_all 256 target (omega (arith, n.2)))
