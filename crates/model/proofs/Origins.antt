-- How a media type was arrived at: what the call answers, accepted and refused.
-- Assumes nothing.
use Prim.Native.Nat.{ℕ, ◌<◌, ◌≤◌}
use mathlib.Core.Path.{◌≡◌, refl, ap, ◌∙◌}
use mathlib.Core.Logic.{◌⊎◌, inl, inr}
use mathlib.Core.Bool.{Bool, true, false, not}
use mathlib.Core.List.{[], ◌∷◌, ◌++◌}
use mathlib.Core.Option.{Option, none, some}
use native.Mathlib.Omega.{arith}
use lib.Dec.{leb, eqb}
use lib.ListN.{length, drop}
use borrow.Author.Tests.{ne_eqb, eq-eqb, eqb-true, eqb-false, leb-true, leb-false, le-leb, lt-leb}
use Rattle.output.specs.Answers.{Text, Refused, unless, Answer, answer, choose}
use Rattle.output.proofs.Answering.{unless_refused}
use Rattle.model.specs.Sets.{Bytes, held, lookup}
use Rattle.model.specs.Fields.{when, part_field}
use Rattle.model.specs.Package.{Default, Override, State, name_key, key_of_override, no_part, part_refusal, default_for, type_of, media_type_of}
use Rattle.model.specs.TypeOrigin.{Origin, ByOverride, ByDefault, Neither, origin_in, origin_of, kind_of, key_of, keyed, type_origin}
use Rattle.model.specs.Calls.{MediaType, printed, text_of}
use Rattle.model.proofs.Refusals.{first_front, first_past, first_one}

-- A KEY WRITTEN OUT, or too long
module _ (kind : ℕ) (key out : Bytes) where
  pub keyed_fits : length key ≤ length out → keyed kind key out ≡ answer 0 (kind ∷ length key ∷ []) (key ++ drop (length key) out)
  unfolding keyed
  keyed_fits l = rw (le-leb (length key) (length out) l)

  pub keyed_short : length out < length key → keyed kind key out ≡ answer 3 (length key ∷ 0 ∷ []) out
  unfolding keyed
  keyed_short l = rw (lt-leb (length key) (length out) l)

  -- whichever it is
  keyed_either : (P : Answer → Type 0) → (length key ≤ length out → P (answer 0 (kind ∷ length key ∷ []) (key ++ drop (length key) out))) →
      (length out < length key → P (answer 3 (length key ∷ 0 ∷ []) out)) → P (keyed kind key out)
  unfolding keyed
  keyed_either P f s = go (leb (length key) (length out)) refl
    where
      go : (b : Bool) → leb (length key) (length out) ≡ b →
          P (choose b (answer 0 (kind ∷ length key ∷ []) (key ++ drop (length key) out)) (answer 3 (length key ∷ 0 ∷ []) out))
      go true e = f (leb-true (length key) (length out) e)
      go false e = s (leb-false (length key) (length out) e)

  pub keyed_number : ((keyed kind key out).number ≡ 0) ⊎ ((keyed kind key out).number ≡ 3)
  keyed_number = keyed_either (λ (a : Answer). (a.number ≡ 0) ⊎ (a.number ≡ 3)) (λ _. inl refl) (λ _. inr refl)

  pub keyed_accepted : (keyed kind key out).number ≡ 0 → keyed kind key out ≡ answer 0 (kind ∷ length key ∷ []) (key ++ drop (length key) out)
  keyed_accepted =
      keyed_either (λ (a : Answer). a.number ≡ 0 → a ≡ answer 0 (kind ∷ length key ∷ []) (key ++ drop (length key) out)) (λ _ _. refl)
      (λ _ z. let e : ◌≡◌ {A = ℕ} 3 0 = z in absurd (omega arith))

  pub keyed_stopped : (keyed kind key out).number ≡ 3 → (keyed kind key out ≡ answer 3 (length key ∷ 0 ∷ []) out) × (length out < length key)
  keyed_stopped =
      keyed_either (λ (a : Answer). a.number ≡ 3 → (a ≡ answer 3 (length key ∷ 0 ∷ []) out) × (length out < length key))
      (λ _ z. let e : ◌≡◌ {A = ℕ} 0 3 = z in absurd (omega arith)) (λ l _. (refl, l))

  pub keyed_kept : ((keyed kind key out).number ≡ 0 → ⊥) → (keyed kind key out).output ≡ out
  keyed_kept = keyed_either (λ (a : Answer). (a.number ≡ 0 → ⊥) → a.output ≡ out) (λ _ h. absurd (h refl)) (λ _ _. refl)

-- THE ANSWER, by whether it is refused
module _ (S : State) (name : Bytes) where
  pub origin_done : (out : Bytes) → part_refusal S name ≡ 0 → type_origin S name out ≡ keyed (kind_of (origin_of name S)) (key_of (origin_of name S)) out
  unfolding type_origin
  origin_done out e = rw (eq-eqb (part_refusal S name) 0 e)

  pub origin_refused : (out : Bytes) → (part_refusal S name ≡ 0 → ⊥) → type_origin S name out ≡ answer (part_refusal S name) (0 ∷ 0 ∷ []) out
  unfolding type_origin
  origin_refused out z = rw (ne_eqb (part_refusal S name) 0 z)

  -- whichever it is
  pub origin_either : (P : Type 0) → (part_refusal S name ≡ 0 → P) → ((part_refusal S name ≡ 0 → ⊥) → P) → P
  origin_either P f r = go (eqb (part_refusal S name) 0) refl
    where
      go : (b : Bool) → eqb (part_refusal S name) 0 ≡ b → P
      go true e = f (eqb-true (part_refusal S name) 0 e)
      go false e = r (eqb-false (part_refusal S name) 0 e)

  pub origin_kept : (out : Bytes) → ((type_origin S name out).number ≡ 0 → ⊥) → (type_origin S name out).output ≡ out
  origin_kept out h =
      origin_either ((type_origin S name out).output ≡ out)
      (λ e.
      let d = origin_done out e in
      ap (λ (a : Answer). a.output) d
      ∙ keyed_kept (kind_of (origin_of name S)) (key_of (origin_of name S)) out (λ z. h (ap (λ (a : Answer). a.number) d ∙ z)))
      (λ z. ap (λ (a : Answer). a.output) (origin_refused out z))

-- THE RULE of document 01: the entry gives the type
abbrev pub given : Origin → Option Bytes
given (ByOverride o) = some o.type
given (ByDefault d) = some d.type
given Neither = none

given_in : (o : Option Override) (d : Option Default) → type_of o d ≡ given (origin_in o d)
given_in (some o) d = refl
given_in none (some d) = refl
given_in none none = refl

pub origin_type : (S : State) (name : Bytes) → media_type_of name S ≡ given (origin_of name S)
unfolding media_type_of origin_of
origin_type S name = given_in (lookup key_of_override (name_key name) S.overrides) (default_for name S.defaults)

-- THE MEDIA TYPE CALL, by whether the part is refused
module _ (S : State) (name : Bytes) (size : ℕ) where
  abbrev fourteen : ℕ
  fourteen = when (not (held (media_type_of name S))) 14

  pub type_printed : part_refusal S name ≡ 0 → printed S size (MediaType name) ≡ unless fourteen (Text (text_of (media_type_of name S)) [])
  unfolding printed
  type_printed e =
      ap (λ (n : ℕ). unless n (Text (text_of (media_type_of name S)) []))
      (first_past (part_field name ∷ no_part S name ∷ []) (fourteen ∷ []) e ∙ first_one fourteen)

  pub type_refused : (part_refusal S name ≡ 0 → ⊥) → printed S size (MediaType name) ≡ Refused (part_refusal S name)
  unfolding printed
  type_refused z =
      ap (λ (n : ℕ). unless n (Text (text_of (media_type_of name S)) []))
      (first_front (part_field name ∷ no_part S name ∷ []) (fourteen ∷ []) z)
      ∙ unless_refused (part_refusal S name) (Text (text_of (media_type_of name S)) []) z
