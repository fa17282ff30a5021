-- A put and a drop of an entry, whichever the set: each way out of the call.
-- Assumes nothing.
use Prim.Native.Nat.{ℕ}
use mathlib.Core.Path.{◌≡◌, sym, ◌∙◌, refl, ap}
use mathlib.Core.Bool.{not, Bool, true, false}
use mathlib.Core.List.{List, [], ◌∷◌, ◌++◌}
use lib.ListN.{length}
use Rattle.output.specs.Answers.{Answer}
use Rattle.output.specs.Refusals.{number}
use Rattle.output.specs.declared.refusals.Refusal.{Refusal}
use Rattle.output.proofs.Answering.{number_some}
use Rattle.model.specs.Sets.{Key, held, lookup}
use Rattle.model.specs.Fields.{when, first}
use Rattle.model.specs.Package.{State}
use Rattle.model.specs.Puts.{put_refusal, drop_refusal, put_in, taken_out}
use Rattle.model.specs.Calls.{Change, Changes, change_refusal, change_made, refused}
use Rattle.model.proofs.Refusals.{first_append, first_met, first_unmet, first_one, first_front, first_past}
use Rattle.contract.specs.Rows.{set_key, RowKind}
use Rattle.contract.specs.Holds.{Holds}
use Rattle.contract.specs.Entries.{Entered, Dropped}
use Rattle.contract.specs.Ran.{Ran}
use Rattle.contract.specs.Opening.{Open}
use Rattle.contract.proofs.Rans.{ran_changed, field_refused}
use Rattle.contract.proofs.RowKinds.{RowLawful}
use Rattle.contract.proofs.SetStates.{drop_step, put_step}

module _ {E : Type 0} (K : RowKind E) (c : Change) where
  -- the change puts in the entry e, for which the call has its own tests
  pub record Putting (e : E) (tests : State → List ℕ) : Type 0 where
    pub refusal : (S : State) → change_refusal S c ≡ put_refusal K.kind S e (tests S)
    pub made : (S : State) → change_made S c ≡ put_in K.kind S e

  -- it takes out the entry of the key k, which is judged by the fields
  pub record Dropping (fields : List ℕ) (k : Key) : Type 0 where
    pub refusal : (S : State) → change_refusal S c ≡ drop_refusal K.kind S fields k
    pub made : (S : State) → change_made S c ≡ taken_out K.kind S k

-- the own tests stand between 10 and the rest; where 10 is met they do not matter
own_tests : (t : Bool) (own : ℕ) (ms ns : List ℕ) → (t ≡ false → own ≡ first ms) →
    first (when t 10 ∷ (ms ++ ns)) ≡ first (when t 10 ∷ own ∷ ns)
unfolding first
own_tests true own ms ns h = refl
own_tests false own ms ns h = first_append ms ns ∙ ap (λ (n : ℕ). first (n ∷ ns)) (sym (h refl))

module _ {E : Type 0} (K : RowKind E) (L : RowLawful K) (p : List ℕ) (o : Open p) (c : Change) where
  module _ (fields : List ℕ) (k : Key) (D : Dropping K c fields k) where
    abbrev missing : State → ℕ
    missing S = when (not (held (lookup K.kind.key k (K.kind.entries S)))) 13

    -- refused by the fields
    pub drop_refused : (r : Refusal) → number r ≡ first fields → Ran (Changes c) p (refused (number r)) p
    drop_refused r e =
        field_refused p o c r
        (λ S. D.refusal S ∙ first_front fields (missing S ∷ []) (λ y. number_some r (e ∙ y)) ∙ sym e)

    -- not refused by them
    pub drop_ran : 0 ≡ first fields → (a : Answer) (q : List ℕ) → length q ≡ length p → Dropped p (set_key K.set k) a q → Ran (Changes c) p a q
    drop_ran e a q l w =
        ran_changed p o c a q l w.numbered w.kept
        (λ S h. drop_step K L p S h c k a q w
        (D.refusal S ∙ first_past fields (missing S ∷ []) (sym e) ∙ first_one (missing S)) (D.made S))

  module _ (e : E) (tests : State → List ℕ) (P : Putting K c e tests) where
    pub put_refused : (r : Refusal) → number r ≡ K.kind.fields e → Ran (Changes c) p (refused (number r)) p
    put_refused r f = field_refused p o c r (λ S. P.refusal S ∙ first_met (K.kind.fields e) _ (λ y. number_some r (f ∙ y)) ∙ sym f)

    pub put_ran : 0 ≡ K.kind.fields e → (own : ℕ) →
        ((S : State) → Holds p S → held (lookup K.kind.key (K.kind.key e) (K.kind.entries S)) ≡ false → own ≡ first (tests S)) →
        (a : Answer) (q : List ℕ) → length q ≡ length p → Entered p own K.kind.limit (K.row e) a q → Ran (Changes c) p a q
    put_ran f own eo a q l w =
        ran_changed p o c a q l w.numbered w.kept
        (λ S h. put_step K L p S h c e own a q w
        (P.refusal S ∙ first_unmet (K.kind.fields e) _ (sym f)
        ∙ own_tests (held (lookup K.kind.key (K.kind.key e) (K.kind.entries S))) own (tests S) _ (eo S h)) (P.made S))
