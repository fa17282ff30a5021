-- Each kind of entry, judged: by its fields, then by noting it in the shadow.
-- Assumes nothing.
use Prim.Native.Nat.{ℕ, ◌+◌, ◌-◌, ◌≤◌, ◌<◌}
use mathlib.Core.Path.{◌≡◌, ap, sym, ◌∙◌, subst}
use mathlib.Core.Bool.{Bool}
use mathlib.Core.List.{List}
use lib.ListN.{length}
use Rattle.std.specs.Prelude.{Result, Ok, Err}
use Rattle.output.specs.Refusals.{number}
use Rattle.output.specs.declared.refusals.Refusal.{Refusal}
use Rattle.output.proofs.Answering.{number_some}
use Rattle.markup.specs.declared.entries.Kind.{Kind}
use Rattle.model.specs.Sets.{Bytes}
use Rattle.model.specs.Package.{State, charge}
use Rattle.model.specs.Puts.{put_in}
use Rattle.model.specs.Good.{Good}
use Rattle.model.specs.Calls.{Numbered}
use Rattle.model.specs.Reading.{Entered, entry_made}
use Rattle.model.proofs.Refusals.{first_met}
use Rattle.model.proofs.Steps.{entry_good}
use Rattle.model.proofs.EntryPuts.{PutsAs}
use Rattle.contract.specs.Rows.{set_key, RowKind}
use Rattle.contract.specs.Holds.{Holds}
use Rattle.contract.specs.Entries.{Taken}
use Rattle.contract.proofs.RowKinds.{RowLawful}
use Rattle.contract.proofs.RowOrders.{holds_ordered}
use Rattle.contract.proofs.SetStates.{lies_put}
use Rattle.reading.specs.Notes.{shade, Notes, Joined, Beyond, LeftIn, note_refusal, NotedRow}
use Rattle.reading.specs.Judging.{fields_of, TakenAs, StoppedAs, JudgedAs}
use Rattle.reading.proofs.NotedRows.{noted_fits, noted_put, note_is}

-- how the entries of a set are noted in the readings of a kind
pub record Noting {E : Type 0} (K : RowKind E) (made : E → Entered) (shaded : E → E) (Mine : E → Type 0) (R : Kind) (source : Bytes) : Type 0 where
  pub lawful : RowLawful K
  pub puts : PutsAs K.kind made
  pub shades : (e : E) → shade (made e) ≡ made (shaded e)
  pub judged : (e : E) → fields_of (made e) ≡ K.kind.fields e
  pub numbered : (e : E) → Numbered (K.kind.fields e)
  pub fielded : (e : E) → K.kind.fields e ≡ 0 → K.kind.fields (shaded e) ≡ 0
  pub roomy : (e : E) → K.kind.fields e ≡ 0 → (m : List ℕ) (T : State) → Notes R m T → length (K.kind.entries T) < K.kind.limit →
      charge T + K.kind.charge (shaded e) ≤ T.capacity
  pub noted : (e : E) → K.kind.fields e ≡ 0 → (m n : List ℕ) (T : State) → Notes R m T → Holds n (put_in K.kind T (shaded e)) →
      Notes R n (put_in K.kind T (shaded e))
  pub joined : (S T U : State) (room : ℕ) → Beyond source S T U room → Joined K.kind shaded Mine S T U
  pub beyond : (e : E) → Mine e → (S T U : State) (room size : ℕ) → Beyond source S T U room → size ≡ K.kind.charge e → size ≤ room →
      Beyond source S (put_in K.kind T (shaded e)) (put_in K.kind U e) (room - size)

module _ {E : Type 0} (K : RowKind E) (made : E → Entered) (shaded : E → E) (Mine : E → Type 0) (R : Kind) (source : Bytes)
    (N : Noting K made shaded Mine R source) (e : E) (mine : Mine e) (b m n : List ℕ) (room : ℕ) where
  -- by its fields
  pub field_stopped : (r : Refusal) → number r ≡ K.kind.fields e → StoppedAs R source b m room (made e) (number r)
  field_stopped r er = record {
    numbered = subst Numbered (sym er) (N.numbered e);
    some = number_some r;
    is = λ T t S U h y. N.puts.refusal U e ∙ first_met (K.kind.fields e) _ (λ f. number_some r (er ∙ f)) ∙ sym er;
  }

  module _ (f : K.kind.fields e ≡ 0) (left size : ℕ) (taken : Bool) (ez : size ≡ K.kind.charge e)
      (tk : Taken b (set_key K.set (K.kind.key e)) taken) (lf : LeftIn b K.set K.kind.limit left) where
    noting_stopped : (r : Refusal) → NotedRow m n taken left room size (K.row (shaded e)) (Err r) → StoppedAs R source b m room (made e) (number r)
    noting_stopped r w = record {
      numbered = w.0;
      some = w.1;
      is = λ T t S U h y.
          N.puts.refusal U e
          ∙ sym (w.2 (holds_ordered m T t.holds)
          ∙ note_is K N.lawful shaded Mine e b m left room size taken lf.few T t.holds (N.roomy e f m T t) S U h tk lf (N.joined S T U room y) mine
          y.left ez f);
    }

    noting_taken : (k : ℕ) → NotedRow m n taken left room size (K.row (shaded e)) (Ok k) → TakenAs R source b m n room (made e) k
    noting_taken k w = record {
      fielded = N.judged e ∙ f;
      fits = λ T t. subst (λ (i : ℕ). i ≤ room) (sym w.0) (fits T t);
      noted = λ T t. subst (λ (W : State). Notes R n W) (sym (after T)) (N.noted e f m n T t (holding T t));
      is = λ T t S U h y.
          let r = note_is K N.lawful shaded Mine e b m left room size taken lf.few T t.holds (N.roomy e f m T t) S U h tk lf
          (N.joined S T U room y) mine y.left ez f in
          let next : Beyond source S (put_in K.kind T (shaded e)) (put_in K.kind U e) (room - k) =
          N.beyond e mine S T U room k y (w.0 ∙ ez) (subst (λ (i : ℕ). i ≤ room) (sym w.0) (fits T t)) in (
            N.puts.refusal U e ∙ sym r ∙ none T t,
            subst (λ (W : State). Beyond source S (entry_made T (shade (made e))) W (room - k)) (sym (N.puts.after U e))
                (subst (λ (W : State). Beyond source S W (put_in K.kind U e) (room - k)) (sym (after T)) next),
          );
    }
      where
        none : (T : State) → Notes R m T → note_refusal m taken left room size (K.row (shaded e)) ≡ 0
        none T t = (w.1 (holds_ordered m T t.holds)).0

        fits : (T : State) → Notes R m T → size ≤ room
        fits T t = noted_fits K N.lawful shaded Mine e b m left room size taken lf.few T t.holds (N.roomy e f m T t) (none T t)

        after : (T : State) → entry_made T (shade (made e)) ≡ put_in K.kind T (shaded e)
        after T = ap (entry_made T) (N.shades e) ∙ N.puts.after T (shaded e)

        holding : (T : State) → Notes R m T → Holds n (put_in K.kind T (shaded e))
        holding T t = record {
          lies = lies_put K N.lawful m T t.holds (shaded e) n (w.1 (holds_ordered m T t.holds)).1;
          good = subst Good (N.puts.after T (shaded e))
              (entry_good T (made (shaded e)) t.holds.good
              (N.puts.refusal T (shaded e)
              ∙ noted_put K N.lawful shaded Mine e b m left room size taken lf.few T t.holds (N.roomy e f m T t) (none T t) (N.fielded e f)));
        }

    pub noting_judged : (r : Result ℕ Refusal) → NotedRow m n taken left room size (K.row (shaded e)) r → JudgedAs R source b m n room (made e) r
    noting_judged (Ok k) w = noting_taken k w
    noting_judged (Err r) w = noting_stopped r w
