-- A stream that is read into a package: each way out of the call.
-- Assumes nothing.
use Prim.Native.Nat.{ℕ}
use mathlib.Core.Path.{◌≡◌, refl, sym, ap, ◌∙◌, subst}
use mathlib.Core.List.{List, [], ◌∷◌}
use lib.ListN.{length}
use Rattle.output.specs.Answers.{Answer}
use Rattle.output.specs.Refusals.{number}
use Rattle.output.specs.declared.refusals.Refusal.{Refusal}
use Rattle.output.proofs.Answering.{number_some}
use Rattle.markup.specs.Entries.{Entry}
use Rattle.markup.specs.Streams.{Said, Unread, said, entries_of, form_of}
use Rattle.markup.specs.FormPlaces.{Accepted}
use Rattle.markup.specs.Walks.{refusal_of, number as fault_number}
use Rattle.markup.specs.declared.marks.Fault.{Fault}
use Rattle.markup.specs.declared.marks.Fault.TheVariants.{Malformed, TooDeep}
use Rattle.markup.specs.declared.entries.Kind.{Kind}
use Rattle.markup.specs.declared.entries.Kind.TheVariants.{Types, Relationships}
use Rattle.markup.proofs.EntryKinds.{said_of}
use Rattle.markup.proofs.PlacedEntries.{first_said}
use Rattle.model.specs.Sets.{Bytes}
use Rattle.model.specs.Fields.{first, source_field}
use Rattle.model.specs.Package.{State}
use Rattle.model.specs.Reading.{Entered, types_in, relationships_in, entries_refusal, entries_made, read_types_refusal, read_relationships_refusal}
use Rattle.model.specs.Calls.{Change, Changes, ReadTypes, ReadRelationships, done, refused, changed, change, change_refusal, change_made}
use Rattle.model.proofs.Refusals.{first_met, first_unmet, first_one, changed_done, changed_same}
use Rattle.model.proofs.Numbers.{zero_numbered}
use Rattle.model.proofs.EntryCounts.{Saying, types_saying, relationships_saying, first_all, first_refusal_lem}
use Rattle.contract.specs.Holds.{Holds}
use Rattle.contract.specs.Ran.{Ran}
use Rattle.contract.specs.Opening.{Open}
use Rattle.contract.proofs.Rans.{changed_refused, ran_changed, field_refused}
use Rattle.reading.specs.Judging.{JudgedAll}
use Rattle.reading.specs.Entering.{typed_first, related_first, AddedAll, TookAll}

-- ALL OR NONE
module _ {es : List Entered} {p : List ℕ} where
  pub none_took : (r : Refusal) → JudgedAll p es (number r) → TookAll es p (refused (number r)) p
  none_took r j = record {
    kept = λ _. (refl, refl);
    numbered = j.numbered;
    ledger = λ S h.
        let e : changed (entries_refusal S es) S (entries_made S es) ≡ (refused (number r), S) =
        ap (λ (n : ℕ). changed n S (entries_made S es)) (sym (j.is S h)) ∙ changed_refused (number r) S (entries_made S es) (number_some r) in
        rw e (refl, h);
  }

  pub all_took : {q : List ℕ} → JudgedAll p es 0 → AddedAll es p q → TookAll es p done q
  all_took j w = record {
    kept = λ n. absurd (n refl);
    numbered = zero_numbered;
    ledger = λ S h.
        let none : entries_refusal S es ≡ 0 = sym (j.is S h) in
        rw (changed_done (entries_refusal S es) S (entries_made S es) none) (refl, w.is S h none);
  }

-- THE CALL c puts in what a stream s says, where its form is accepted
module _ {K : Kind} {say : List Entry → List Entered} (Y : Saying K say) (s : Bytes) (c : Change)
    (refusal : (S : State) → change_refusal S c ≡ entries_refusal S (say (entries_of (said K s))))
    (made : (S : State) → change_made S c ≡ entries_made S (say (entries_of (said K s)))) where
  first_change : (p : List ℕ) (S : State) → Holds p S →
      changed (entries_refusal S (say (first_said K s))) S (entries_made S (say (first_said K s))) ≡ change S c
  unfolding change
  first_change p S h =
      let es = entries_of (said K s) in
      changed_same (entries_refusal S (say (first_said K s))) S (entries_made S (say (first_said K s))) (change_made S c)
      (λ z. ap (λ (l : List Entry). entries_made S (say l)) (first_all Y S h.good es (said_of K s) z) ∙ sym (made S))
      ∙ ap (λ (n : ℕ). changed n S (change_made S c)) (first_refusal_lem Y S h.good es (said_of K s) ∙ sym (refusal S))

  read_ran : {p : List ℕ} → Open p → {a : Answer} {q : List ℕ} → length q ≡ length p → TookAll (say (first_said K s)) p a q → Ran (Changes c) p a q
  read_ran {p} o {a} {q} l t =
      ran_changed p o c a q l t.numbered t.kept
      (λ S h.
      let e = t.ledger S h in
      let same = first_change p S h in
      (e.0 ∙ ap (λ (r : Answer × State). r.0) same, (subst (λ (r : Answer × State). Holds q r.1) same e.1).lies))

-- a stream of an accepted form is refused by its entries alone
accepted_form : {K : Kind} {s places : List ℕ} {count : ℕ} → Accepted K s places count → form_of (said K s) ≡ 0
accepted_form a = ap form_of a.is

-- and one that isn't by the number of its fault
unread_form : (d : Said) (f : Fault) → d ≡ Unread (fault_number f) → d ≡ Unread (number (refusal_of f))
unread_form d Malformed e = e
unread_form d TooDeep e = e

module _ {p : List ℕ} (o : Open p) (s : Bytes) where
  -- TYPES
  pub types_unread : (f : Fault) → said Types s ≡ Unread (fault_number f) → Ran (Changes (ReadTypes s)) p (refused (number (refusal_of f))) p
  unfolding read_types_refusal
  types_unread f e =
      let r = refusal_of f in
      field_refused p o (ReadTypes s) r
      (λ S. ap (λ (d : Said). first (form_of d ∷ entries_refusal S (types_in s) ∷ [])) (unread_form _ f e) ∙ first_met (number r) _ (number_some r))

  pub types_ran : {places : List ℕ} {count : ℕ} → Accepted Types s places count → {a : Answer} {q : List ℕ} → length q ≡ length p →
      TookAll (typed_first s) p a q → Ran (Changes (ReadTypes s)) p a q
  unfolding read_types_refusal
  types_ran y =
      read_ran types_saying s (ReadTypes s) (λ S. first_unmet (form_of (said Types s)) _ (accepted_form y) ∙ first_one _) (λ S. refl) o

  -- RELATIONSHIPS
  module _ (source : Bytes) where
    pub source_refused : (r : Refusal) → number r ≡ source_field source → Ran (Changes (ReadRelationships source s)) p (refused (number r)) p
    unfolding read_relationships_refusal
    source_refused r e =
        field_refused p o (ReadRelationships source s) r (λ S. first_met (source_field source) _ (λ y. number_some r (e ∙ y)) ∙ sym e)

    module _ (es : 0 ≡ source_field source) where
      pub relationships_unread : (f : Fault) → said Relationships s ≡ Unread (fault_number f) →
          Ran (Changes (ReadRelationships source s)) p (refused (number (refusal_of f))) p
      unfolding read_relationships_refusal
      relationships_unread f e =
          let r = refusal_of f in
          field_refused p o (ReadRelationships source s) r
          (λ S. first_unmet (source_field source) _ (sym es)
          ∙ ap (λ (d : Said). first (form_of d ∷ entries_refusal S (relationships_in source s) ∷ [])) (unread_form _ f e)
          ∙ first_met (number r) _ (number_some r))

      pub relationships_ran : {places : List ℕ} {count : ℕ} → Accepted Relationships s places count → {a : Answer} {q : List ℕ} →
          length q ≡ length p → TookAll (related_first source s) p a q → Ran (Changes (ReadRelationships source s)) p a q
      unfolding read_relationships_refusal
      relationships_ran y =
          read_ran (relationships_saying source) s (ReadRelationships source s)
          (λ S. first_unmet (source_field source) _ (sym es) ∙ first_unmet (form_of (said Relationships s)) _ (accepted_form y) ∙ first_one _)
          (λ S. refl) o
