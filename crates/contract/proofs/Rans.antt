-- The ways in which a call's answer is right: one law for each.
-- Assumes nothing.
use Prim.Native.Nat.{ℕ, ◌+◌, ◌≤◌}
use mathlib.Core.Path.{◌≡◌, refl, ap, sym, ◌∙◌, subst}
use mathlib.Core.Bool.{Bool, true, false, ◌||◌, true≢false}
use mathlib.Core.List.{List, [], ◌∷◌}
use native.Mathlib.Omega.{arith}
use lib.Dec.{ltb, eqb}
use lib.ListN.{length}
use borrow.Author.Tests.{ne_eqb, eqb-true, eqb-false}
use Rattle.output.specs.Answers.{Answer, answer, filled, refusing}
use Rattle.output.specs.Refusals.{number}
use Rattle.output.specs.declared.refusals.Refusal.{Refusal}
use Rattle.output.proofs.Answering.{number_some}
use Rattle.model.specs.Sets.{Bytes}
use Rattle.model.specs.Fields.{when}
use Rattle.model.specs.Package.{State, empty}
use Rattle.model.specs.Cutting.{cut_refusal}
use Rattle.model.specs.TypeOrigin.{type_origin}
use Rattle.model.specs.Calls.{Look, Find, View, Totals, Change, Print, Call, Start, Looks, Changes, CutPart, TypeOrigin, Prints, done, refused, changed}
use Rattle.model.specs.Calls.{Numbered, capacity_limit, overhead, start_refusal, look, change, change_refusal, change_made, cut, printed, value_count, step, lent}
use Rattle.model.proofs.Numbers.{zero_numbered, change_numbered}
use Rattle.model.proofs.Steps.{change_good, cut_step_good}
use Rattle.model.proofs.CutRefusals.{cut_refused}
use Rattle.store.specs.Packages.{is_package}
use Rattle.contract.specs.Holds.{Lies, Holds}
use Rattle.contract.specs.Ran.{Ran, no_package, starts}
use Rattle.contract.specs.Opening.{Open}
use Rattle.model.proofs.Refusals.{changed_done}
use Rattle.contract.proofs.Opening.{none_begun}

-- bytes that are let in are not foreign
passed : (p : List ℕ) → Open p → is_package p ≡ false → {A : Type 0} → A
passed p o f = absurd (true≢false (sym o.tested ∙ f))

module _ (p : List ℕ) (o : Open p) where
  -- a call that keeps the package
  keeping : (c : Call) → starts c ≡ false → ((S : State) → (step (length p) S c).1 ≡ S) → (a : Answer) → Numbered a.number →
      ((a.number ≡ 0 → ⊥) → a.output ≡ lent c) → ((S : State) → Holds p S → a ≡ (step (length p) S c).0) → Ran c p a p
  keeping c s u a n k e = record {
    ledger = λ S h. (e S h, subst (Holds p) (sym (u S)) h);
    kept = λ r. (refl, k r);
    foreign = λ _ f. passed p o f;
    numbered = λ _ _. n;
    begun = none_begun c s p a p;
    sized = refl;
  }

  -- one that only looks
  pub looked : (q : Look) (a : Answer) → Numbered a.number → ((a.number ≡ 0 → ⊥) → a.output ≡ []) → ((S : State) → Holds p S → a ≡ look S q) → Ran (Looks q) p a p
  looked q = keeping (Looks q) refl (λ S. refl)

  -- one that tells how a media type was arrived at
  pub traced : (name output : Bytes) (a : Answer) → Numbered a.number → ((a.number ≡ 0 → ⊥) → a.output ≡ output) →
      ((S : State) → Holds p S → a ≡ type_origin S name output) → Ran (TypeOrigin name output) p a p
  traced name output = keeping (TypeOrigin name output) refl (λ S. refl)

  -- one that writes into its output
  pub wrote : (w : Print) (output : List ℕ) (a : Answer) → Numbered a.number → ((a.number ≡ 0 → ⊥) → a.output ≡ output) →
      ((S : State) → Holds p S → a ≡ filled (value_count w) output (printed S (length output) w)) → Ran (Prints w output) p a p
  wrote w output = keeping (Prints w output) refl (λ S. refl)

  -- a change that is refused
  pub change_refused : (c : Change) (n : ℕ) → Numbered n → ((S : State) → Holds p S → change S c ≡ (refused n, S)) → Ran (Changes c) p (refused n) p
  change_refused c n u e = record {
    ledger = λ S h. (ap (λ (x : Answer × State). x.0) (sym (e S h)), subst (λ (x : Answer × State). Holds p x.1) (sym (e S h)) h);
    kept = λ r. (refl, refl);
    foreign = λ _ f. passed p o f;
    numbered = λ _ _. u;
    begun = tt;
    sized = refl;
  }

  -- a change that is made
  pub change_made_lem : (c : Change) (q : List ℕ) → length q ≡ length p → ((S : State) → Holds p S → ((change S c).0 ≡ done) × Lies q (change S c).1) → Ran (Changes c) p done q
  change_made_lem c q l e = record {
    ledger = λ S h. (sym (e S h).0, record { lies = (e S h).1; good = change_good S c h.good });
    kept = λ r. absurd (r refl);
    foreign = λ _ f. passed p o f;
    numbered = λ _ _. zero_numbered;
    begun = tt;
    sized = l;
  }

pub changed_refused : (n : ℕ) (S T : State) → (n ≡ 0 → ⊥) → changed n S T ≡ (refused n, S)
changed_refused n S T h = rw (ne_eqb n 0 h)

-- a start
pub started : (C : ℕ) (p q : List ℕ) → start_refusal (length p) C ≡ 0 → length q ≡ length p → Holds q (empty C) → Ran (Start C) p done q
started C p q e l h = record {
  ledger = λ S _. subst (λ (x : Answer × State). (done ≡ x.0) × Holds q x.1) (sym (changed_done (start_refusal (length p) C) S (empty C) e)) (refl, h);
  kept = λ r. absurd (r refl);
  foreign = λ s _. absurd (true≢false s);
  numbered = λ s _. absurd (true≢false s);
  begun = ((λ _. (refl, h)), (λ r. absurd (r e)));
  sized = l;
}

pub start_refused : (C : ℕ) (p : List ℕ) (n : ℕ) → start_refusal (length p) C ≡ n → (n ≡ 0 → ⊥) → Ran (Start C) p (refused n) p
start_refused C p n e z =
    let z' : start_refusal (length p) C ≡ 0 → ⊥ = λ y. z (sym e ∙ y) in
    record {
      ledger = λ S h. subst (λ (x : Answer × State). (refused n ≡ x.0) × Holds p x.1) (sym (changed_refused (start_refusal (length p) C) S (empty C) z')) (ap refused (sym e), h);
      kept = λ _. (refl, refl);
      foreign = λ s _. absurd (true≢false s);
      numbered = λ s _. absurd (true≢false s);
      begun = ((λ y. absurd (z' y)), (λ _. ap refused (sym e)));
      sized = refl;
    }

-- a change whose answer and bytes are the ledger's, made or refused
pub ran_changed : (p : List ℕ) → Open p → (c : Change) (a : Answer) (q : List ℕ) → length q ≡ length p → Numbered a.number →
    ((a.number ≡ 0 → ⊥) → (q ≡ p) × (a.output ≡ [])) →
    ((S : State) → Holds p S → (a ≡ (change S c).0) × Lies q (change S c).1) → Ran (Changes c) p a q
ran_changed p o c a q l n k e = record {
  ledger = λ S h. ((e S h).0, record { lies = (e S h).1; good = change_good S c h.good });
  kept = k;
  foreign = λ _ f. passed p o f;
  numbered = λ _ _. n;
  begun = tt;
  sized = l;
}

-- a change that is refused by its fields
pub field_refused : (p : List ℕ) → Open p → (c : Change) (r : Refusal) → ((S : State) → change_refusal S c ≡ number r) →
    Ran (Changes c) p (refused (number r)) p
unfolding change
field_refused p o c r e =
    let n = number r in
    change_refused p o c n (subst Numbered (e (empty 0)) (change_numbered (empty 0) c))
    (λ S h. ap (λ (j : ℕ). changed j S (change_made S c)) (e S) ∙ changed_refused n S (change_made S c) (number_some r))

-- a cut whose answer and bytes are the ledger's, made or refused
pub ran_cut : (p : List ℕ) → Open p → (name : Bytes) (n : ℕ) (a : Answer) (q : List ℕ) → length q ≡ length p → Numbered a.number →
    ((a.number ≡ 0 → ⊥) → (q ≡ p) × (a.output ≡ [])) →
    ((S : State) → Holds p S → (a ≡ (cut S name n).0) × Lies q (cut S name n).1) → Ran (CutPart name n) p a q
ran_cut p o name n a q l u k e = record {
  ledger = λ S h. ((e S h).0, record { lies = (e S h).1; good = cut_step_good S name n h.good });
  kept = k;
  foreign = λ _ f. passed p o f;
  numbered = λ _ _. u;
  begun = tt;
  sized = l;
}

-- a cut that is refused before the first write
pub ran_cut_refused : (p : List ℕ) → Open p → (name : Bytes) (n : ℕ) (r : Refusal) → Numbered (number r) →
    ((S : State) → Holds p S → cut_refusal S name n ≡ number r) → Ran (CutPart name n) p (refusing 2 r []) p
ran_cut_refused p o name n r u e =
    ran_cut p o name n (zeros (number r)) p refl u (λ _. (refl, refl)) (λ S h. rw (told S h) (refl, h.lies))
  where
    zeros : ℕ → Answer
    zeros j = answer j (0 ∷ 0 ∷ []) []

    told : (S : State) → Holds p S → cut S name n ≡ (zeros (number r), S)
    told S h = cut_refused S name n (λ y. number_some r (sym (e S h) ∙ y)) ∙ ap (λ (j : ℕ). (zeros j, S)) (e S h)

-- A CALL ANSWERS: its number is one of documents 01 and 02, whatever the bytes
pub start_small : (room C : ℕ) → start_refusal room C ≤ 2
unfolding start_refusal
start_small room C = go (ltb capacity_limit C || ltb room (C + overhead))
  where
    go : (t : Bool) → when t 2 ≤ 2
    go true = omega arith
    go false = omega arith

foreign_small : (c : Call) → (no_package c).number ≤ 1
foreign_small (Start C) = omega arith
foreign_small (Looks (Find name)) = omega arith
foreign_small (Looks (View name)) = omega arith
foreign_small (Looks Totals) = omega arith
foreign_small (Changes c) = omega arith
foreign_small (CutPart name n) = omega arith
foreign_small (TypeOrigin name output) = omega arith
foreign_small (Prints w output) = omega arith

tested : (c : Call) (p : List ℕ) (a : Answer) (q : List ℕ) → Ran c p a q → starts c ≡ false → a.number ≤ 20
tested c p a q r s = go (is_package p) refl
  where
    go : (t : Bool) → is_package p ≡ t → a.number ≤ 20
    go true e = (r.numbered s e).0
    go false e = omega (arith, foreign_small c, ap (λ (x : Answer). x.number) (r.foreign s e))

pub ran_number : (c : Call) (p : List ℕ) (a : Answer) (q : List ℕ) → Ran c p a q → a.number ≤ 20
ran_number (Start C) p a q r = go (eqb (start_refusal (length p) C) 0) refl
  where
    go : (t : Bool) → eqb (start_refusal (length p) C) 0 ≡ t → a.number ≤ 20
    go true e = omega (arith, ap (λ (x : Answer). x.number) (r.begun.0 (eqb-true (start_refusal (length p) C) 0 e)).0)
    go false e = omega (arith, start_small (length p) C, ap (λ (x : Answer). x.number) (r.begun.1 (eqb-false (start_refusal (length p) C) 0 e)))
ran_number (Looks l) p a q r = tested (Looks l) p a q r refl
ran_number (Changes c) p a q r = tested (Changes c) p a q r refl
ran_number (CutPart name n) p a q r = tested (CutPart name n) p a q r refl
ran_number (TypeOrigin name output) p a q r = tested (TypeOrigin name output) p a q r refl
ran_number (Prints w output) p a q r = tested (Prints w output) p a q r refl
