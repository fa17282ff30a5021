-- Fresh entries of one kind, put in one after the other: all are taken where the set and the capacity take them.
-- Assumes nothing.
use Prim.Native.Nat.{suc, ◌+◌, ◌≤◌, ◌<◌}
use mathlib.Core.Path.{◌≡◌, refl, sym, ap, ◌∙◌, subst}
use mathlib.Core.Bool.{Bool, false}
use mathlib.Core.List.{List, [], ◌∷◌, ◌++◌, map}
use native.Mathlib.Omega.{arith}
use lib.ListN.{length}
use borrow.Author.Tests.{lt-leb, le-ltb}
use Rattle.model.specs.Sets.{Key, held, lookup, insert, sum_of, Each}
use Rattle.model.specs.Fields.{when}
use Rattle.model.specs.Package.{State, Kind, default_kind, override_kind, relationship_kind, charge}
use Rattle.model.specs.Puts.{no_room, put_refusal, put_in, put_default_refusal, put_override_refusal, put_relationship_refusal}
use Rattle.model.specs.Reading.{Entered, ADefault, AnOverride, ARelationship, entry_refusal, entry_made, entries_refusal, entries_made}
use Rattle.model.proofs.Sets.{Absent, length_insert}
use Rattle.model.proofs.Refusals.{none_all, first_unmet, first_one}
use Rattle.model.proofs.KindLaws.{Lawful}
use Rattle.model.proofs.Charges.{charge_put}
use Rattle.model.proofs.EntryLists.{all_in, Fresh, fresh_next}

-- entries of the kind are put as their put does
pub record PutsAs {E : Type 0} (kind : Kind E) (made : E → Entered) : Type 0 where
  pub refusal : (S : State) (e : E) → entry_refusal S (made e) ≡ put_refusal kind S e []
  pub after : (S : State) (e : E) → entry_made S (made e) ≡ put_in kind S e

pub defaults_put : PutsAs default_kind ADefault
unfolding put_default_refusal
defaults_put = record { refusal = λ S d. refl; after = λ S d. refl }

pub overrides_put : PutsAs override_kind AnOverride
unfolding put_override_refusal
overrides_put = record { refusal = λ S o. refl; after = λ S o. refl }

pub relationships_put : PutsAs relationship_kind ARelationship
unfolding put_relationship_refusal
relationships_put = record { refusal = λ S r. refl; after = λ S r. refl }

not_held : {E : Type 0} (key : E → Key) (k : Key) (xs : List E) → Absent key k xs → held (lookup key k xs) ≡ false
unfolding lookup
not_held key k [] a = refl
not_held key k (x ∷ xs) a = rw a.0 (not_held key k xs a.1)

-- one that is taken
put_taken : {E : Type 0} (kind : Kind E) (S : State) (e : E) → kind.fields e ≡ 0 → Absent kind.key (kind.key e) (kind.entries S) →
    length (kind.entries S) < kind.limit → charge S + kind.charge e ≤ S.capacity → put_refusal kind S e [] ≡ 0
put_taken kind S e f a n c =
    let roomy : no_room kind.limit (length (kind.entries S)) (kind.charge e) S ≡ false =
    rw (lt-leb _ _ n, le-ltb _ _ c) in
    none_all _ (f, (ap (λ (b : Bool). when b 10) (not_held kind.key (kind.key e) (kind.entries S) a), (ap (λ (b : Bool). when b 15) roomy, tt)))

-- ALL OF THEM, and whatever is put in behind them
pub record AllIn {E : Type 0} (kind : Kind E) (made : E → Entered) (S : State) (es : List E) (rest : List Entered) : Type 0 where
  pub refusal : entries_refusal S (map made es ++ rest) ≡ entries_refusal (kind.renewed S (all_in kind.key es (kind.entries S))) rest
  pub after : entries_made S (map made es ++ rest) ≡ entries_made (kind.renewed S (all_in kind.key es (kind.entries S))) rest

module _ {E : Type 0} (kind : Kind E) (L : Lawful kind) (made : E → Entered) (P : PutsAs kind made) (rest : List Entered) where
  -- the first of them
  module _ (e : E) (es : List E) (S : State) where
    xs : List E
    xs = insert kind.key e (kind.entries S)

    now : kind.entries (put_in kind S e) ≡ xs
    unfolding xs
    now = L.own S xs

    end : kind.renewed (put_in kind S e) (all_in kind.key es (kind.entries (put_in kind S e))) ≡ kind.renewed S (all_in kind.key es xs)
    unfolding xs
    end = L.again S xs (all_in kind.key es (kind.entries (put_in kind S e))) ∙ ap (λ (l : List E). kind.renewed S (all_in kind.key es l)) now

    one_in : put_refusal kind S e [] ≡ 0 → AllIn kind made (put_in kind S e) es rest → AllIn kind made S (e ∷ es) rest
    unfolding entries_refusal entries_made all_in xs
    one_in taken ih = record {
      refusal =
          first_unmet (entry_refusal S (made e)) _ (P.refusal S e ∙ taken) ∙ first_one _
          ∙ ap (λ (U : State). entries_refusal U (map made es ++ rest)) (P.after S e) ∙ ih.refusal ∙ ap (λ (U : State). entries_refusal U rest) end;
      after = ap (λ (U : State). entries_made U (map made es ++ rest)) (P.after S e) ∙ ih.after ∙ ap (λ (U : State). entries_made U rest) end;
    }

    still_fresh : Fresh kind.key (e ∷ es) (kind.entries S) → Fresh kind.key es (kind.entries (put_in kind S e))
    unfolding xs
    still_fresh a = subst (λ (l : List E). Fresh kind.key es l) (sym now) (fresh_next kind.key e es (kind.entries S) a)

    still_few : length (kind.entries S) + suc (length es) ≤ kind.limit → length (kind.entries (put_in kind S e)) + length es ≤ kind.limit
    unfolding xs
    still_few n = omega (arith, ap (λ (l : List E). length l) now, length_insert kind.key e (kind.entries S))

    still_within : charge S + (kind.charge e + sum_of kind.charge es) ≤ S.capacity →
        charge (put_in kind S e) + sum_of kind.charge es ≤ (put_in kind S e).capacity
    unfolding xs
    still_within c = omega (arith, charge_put kind L S e, L.capacity S xs)

  pub all_in_lem : (es : List E) (S : State) → Each (λ (e : E). kind.fields e ≡ 0) es → Fresh kind.key es (kind.entries S) →
      length (kind.entries S) + length es ≤ kind.limit → charge S + sum_of kind.charge es ≤ S.capacity → AllIn kind made S es rest
  unfolding all_in sum_of
  all_in_lem [] S f a n c = record {
    refusal = ap (λ (T : State). entries_refusal T rest) (sym (L.same S));
    after = ap (λ (T : State). entries_made T rest) (sym (L.same S));
  }
  all_in_lem (e ∷ es) S f a n c =
      one_in e es S (put_taken kind S e f.0 a.absent.0 (omega arith) (omega arith))
      (all_in_lem es (put_in kind S e) f.1 (still_fresh e es S a) (still_few e es S n) (still_within e es S c))
