-- Each way out of the call that copies an entry's field.
-- Assumes nothing.
use Prim.Native.Nat.{ℕ, suc, ◌+◌, ◌-◌, ◌≤◌, ◌<◌}
use mathlib.Core.Path.{◌≡◌, refl, ap, ap₂, sym, ◌∙◌, subst}
use mathlib.Core.Bool.{Bool, true, false, true≢false}
use mathlib.Core.List.{List, [], ◌∷◌}
use mathlib.Core.Logic.{⊎_elim}
use native.Mathlib.Omega.{arith}
use lib.Dec.{leb}
use lib.ListN.{length, get_or}
use borrow.Author.Tests.{le-leb, lt-leb}
use Rattle.output.specs.Refusals.{number}
use Rattle.output.specs.declared.refusals.Refusal.{Refusal}
use Rattle.output.specs.Answers.{Outcome, Text, unless, Answer, answer, refusing, filled}
use Rattle.output.proofs.Answering.{number_some, unless_refused, filled_number, answer_kept}
use Rattle.model.specs.Sets.{Bytes}
use Rattle.model.specs.Fields.{when, first}
use Rattle.model.specs.Package.{State}
use Rattle.model.specs.Calls.{TypeOrigin, Numbered}
use Rattle.model.proofs.Numbers.{numbered, zero_numbered}
use Rattle.model.proofs.Refusals.{first_met, first_unmet, first_one}
use Rattle.store.specs.Rows.{row_at}
use Rattle.contract.specs.Rows.{key_in}
use Rattle.contract.specs.Holds.{Holds}
use Rattle.contract.specs.Opening.{turned_number, Open}
use Rattle.contract.specs.Searches.{Bounded}
use Rattle.contract.proofs.Opening.{never_turned, turned_away_lem}
use Rattle.entries.specs.Listing.{listed, field_count, entry_refusal, shown, entry_at}
use Rattle.entries.specs.Promise.{EntryRan}
use Rattle.entries.specs.RowTexts.{row_texts, RowCopied}
use Rattle.entries.proofs.SetNumbers.{few_sets}
use Rattle.entries.proofs.SetListings.{InRows, in_rows}

-- what the position alone decides, where the set has the field
module _ (S : State) (set position k : ℕ) (l : k < field_count set) where
  by_position : (y : Bool) → leb (length (listed set S)) position ≡ y → entry_refusal S set position k ≡ when y 13
  by_position y e =
      ap₂ (λ (t u : Bool). first (when t 8 ∷ when u 13 ∷ [])) (lt-leb (field_count set) k l) e ∙ first_unmet 0 (when y 13 ∷ []) refl ∙ first_one (when y 13)

  pub none_refused : position < length (listed set S) → entry_refusal S set position k ≡ 0
  none_refused h = by_position false (lt-leb (length (listed set S)) position h)

  late_refused : length (listed set S) ≤ position → entry_refusal S set position k ≡ 13
  late_refused h = by_position true (le-leb (length (listed set S)) position h)

module _ (p : List ℕ) (set position k : ℕ) (out : Bytes) where
  -- bytes that are turned away: as by every call with two values and an output
  pub entry_turned : (r : Refusal) → number r ≡ turned_number p → EntryRan set position k out p (refusing 2 r out)
  entry_turned r e =
      let t = turned_away_lem p (TypeOrigin [] out) r refl e in
      record {
        ledger = λ S h. never_turned p S h (number r) e (number_some r);
        kept = λ z. (t.kept z).1;
        foreign = t.foreign refl;
        numbered = t.numbered refl;
      }

  abbrev copied : State → Outcome
  copied S = Text (shown S set position k) (length (listed set S) ∷ [])

  module _ (o : Open p) where
    answered : (a : Answer) → Numbered a.number → ((a.number ≡ 0 → ⊥) → a.output ≡ out) →
        ((S : State) → Holds p S → a ≡ entry_at S set position k out) → EntryRan set position k out p a
    answered a n u e = record { ledger = e; kept = u; foreign = λ f. absurd (true≢false (sym o.tested ∙ f)); numbered = λ _. n }

    -- refused by the number j
    refused_by_lem : (j : ℕ) → 2 ≤ j → j ≤ 20 → ((S : State) → Holds p S → entry_refusal S set position k ≡ j) → EntryRan set position k out p (answer j (0 ∷ 0 ∷ []) out)
    unfolding entry_at filled
    refused_by_lem j l m e =
        answered _ (numbered j l m) (λ _. refl)
        (λ S h. sym (ap (λ (n : ℕ). filled 2 out (unless n (copied S))) (e S h) ∙ ap (filled 2 out) (unless_refused j (copied S) (λ z. omega arith))))

    -- 8: the set or the field is not there
    pub entry_no_field : field_count set ≤ k → EntryRan set position k out p (answer 8 (0 ∷ 0 ∷ []) out)
    entry_no_field l =
        refused_by_lem 8 (omega arith) (omega arith)
        (λ S h.
        let late = when (leb (length (listed set S)) position) 13 in
        ap (λ (t : Bool). first (when t 8 ∷ late ∷ [])) (le-leb (field_count set) k l) ∙ first_met 8 (late ∷ []) (λ z. omega arith))

    module _ (l : k < field_count set) (m f t : ℕ) (em : m ≡ suc set) (ef : Bounded p (key_in set [] 0 []) f) (et : Bounded p (key_in m [] 0 []) t) where
      rows : (S : State) → Holds p S → InRows p S set f t
      rows S h = in_rows p S h set m f t (few_sets set k l) em ef et

      -- 13: past the last entry
      pub entry_missing : t ≤ f + position → EntryRan set position k out p (answer 13 (0 ∷ 0 ∷ []) out)
      entry_missing g =
          refused_by_lem 13 (omega arith) (omega arith)
          (λ S h. late_refused S set position k l (omega (arith, (rows S h).ends)))

      -- copied, or 3
      pub entry_copied : (r n : ℕ) → r ≡ f + position → r < t → n ≡ t - f → (a : Answer) → RowCopied p r set k n out a → EntryRan set position k out p a
      unfolding entry_at
      entry_copied r n er g en a w =
          answered a
          (⊎_elim (λ z. subst_number z zero_numbered) (λ z. subst_number z (numbered 3 (omega arith) (omega arith))) (filled_number 2 out w.text (n ∷ [])))
          (answer_kept 2 out _ a w.told)
          (λ S h.
          let s = rows S h in
          let c : n ≡ length (listed set S) = omega (arith, s.ends) in
          let i : position < length (listed set S) = omega (arith, s.ends) in
          let x : w.text ≡ shown S set position k =
          w.is h.lies.sound ∙ ap (λ (j : ℕ). get_or (row_texts set (row_at p j)) k []) er ∙ ap (λ (v : List Bytes). get_or v k []) (s.texts position i) in
          w.told
          ∙ ap₂ (λ (v : Bytes) (j : ℕ). filled 2 out (Text v (j ∷ []))) x c
          ∙ sym (ap (λ (j : ℕ). filled 2 out (unless j (copied S))) (none_refused S set position k l i)))
        where
          subst_number : {j : ℕ} → (filled 2 out (Text w.text (n ∷ []))).number ≡ j → Numbered j → Numbered a.number
          subst_number e u = subst Numbered (sym (ap (λ (x : Answer). x.number) w.told ∙ e)) u
