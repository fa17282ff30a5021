-- The gate: the one law for a call that is turned away, and the one for going on.
-- Assumes nothing.
use Prim.Native.Nat.{ℕ}
use mathlib.Core.Path.{◌≡◌, refl, ap, sym, ◌∙◌}
use mathlib.Core.Bool.{Bool, true, false, not, true≢false}
use mathlib.Core.List.{List}
use native.Mathlib.Omega.{arith}
use Rattle.output.specs.Answers.{Answer}
use Rattle.output.specs.Refusals.{number}
use Rattle.output.specs.declared.refusals.Refusal.{Refusal}
use Rattle.output.proofs.Answering.{number_some}
use Rattle.model.specs.Fields.{when}
use Rattle.model.specs.Package.{State}
use Rattle.model.specs.Calls.{Find, View, Totals, Call, Start, Looks, Changes, CutPart, TypeOrigin, Prints, lent}
use Rattle.store.specs.Packages.{is_package}
use Rattle.store.proofs.PackageTest.{sound_package, package_shape}
use Rattle.contract.specs.Holds.{Holds}
use Rattle.contract.specs.Ran.{Ran, Begun, turned_away, starts}
use Rattle.contract.specs.Opening.{turned_number, Open}

-- what holds an abstract package passes the test
pub is_package_lem : (b : List ℕ) (S : State) → Holds b S → is_package b ≡ true
is_package_lem b S h = sound_package b h.lies.sound h.lies.format

-- THE TEST as the code makes it: x is the answer of `is_package`
module _ (p : List ℕ) (x : Bool) (ex : x ≡ is_package p) where
  pub passes : x ≡ true → 0 ≡ turned_number p
  unfolding turned_number
  passes h = rw (← ex, h)

  pub fails : x ≡ false → 1 ≡ turned_number p
  unfolding turned_number
  fails h = rw (← ex, h)

-- what turns bytes away
turned : (p : List ℕ) (n : ℕ) → n ≡ turned_number p → (n ≡ 0 → ⊥) → (is_package p ≡ false) × (n ≡ 1)
unfolding turned_number
turned p n e z = go (is_package p) refl e
  where
    go : (x : Bool) → is_package p ≡ x → n ≡ when (not x) 1 → (is_package p ≡ false) × (n ≡ 1)
    go false ex f = (ex, f)
    go true ex f = absurd (z f)

-- GOING ON
pub let_in : (p : List ℕ) → 0 ≡ turned_number p → Open p
unfolding turned_number
let_in p e = go (is_package p) refl (sym e)
  where
    go : (x : Bool) → is_package p ≡ x → when (not x) 1 ≡ 0 → Open p
    go false ex f = let q : ◌≡◌ {A = ℕ} 1 0 = f in absurd (omega arith)
    go true ex f = record { tested = ex; shape = package_shape p ex }

-- what holds an abstract package is never turned away
pub never_turned : (p : List ℕ) (S : State) → Holds p S → (n : ℕ) → n ≡ turned_number p → (n ≡ 0 → ⊥) → {A : Type 0} → A
never_turned p S h n e z = absurd (true≢false (sym (is_package_lem p S h) ∙ (turned p n e z).0))

turned_output : (c : Call) (n : ℕ) → (turned_away n c).output ≡ lent c
turned_output (Start C) n = refl
turned_output (Looks (Find name)) n = refl
turned_output (Looks (View name)) n = refl
turned_output (Looks Totals) n = refl
turned_output (Changes c) n = refl
turned_output (CutPart name k) n = refl
turned_output (TypeOrigin name output) n = refl
turned_output (Prints w output) n = refl

pub none_begun : (c : Call) → starts c ≡ false → (p : List ℕ) (a : Answer) (q : List ℕ) → Begun c p a q
none_begun (Start C) s p a q = absurd (true≢false s)
none_begun (Looks l) s p a q = tt
none_begun (Changes c) s p a q = tt
none_begun (CutPart name n) s p a q = tt
none_begun (TypeOrigin name output) s p a q = tt
none_begun (Prints w output) s p a q = tt

-- TURNED AWAY: every call but start that answers the refusal's number, with zeros, or the empty view
pub turned_away_lem : (p : List ℕ) (c : Call) (r : Refusal) → starts c ≡ false → number r ≡ turned_number p
    → Ran c p (turned_away (number r) c) p
turned_away_lem p c r s e =
    let z = number_some r in
    let t = turned p (number r) e z in
    record {
      ledger = λ S h. never_turned p S h (number r) e z;
      kept = λ _. (refl, turned_output c (number r));
      foreign = λ _ _. ap (λ (m : ℕ). turned_away m c) t.1;
      numbered = λ _ o. absurd (true≢false (sym o ∙ t.0));
      begun = none_begun c s p (turned_away (number r) c) p;
      sized = refl;
    }
