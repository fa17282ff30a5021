-- A run of a script writes the ledger's answers.
-- Assumes nothing.
use Prim.Native.Nat.{ℕ, zero, suc, ◌+◌, ◌≤◌, ◌<◌}
use mathlib.Core.Path.{◌≡◌, refl, ap, ap₂, sym, ◌∙◌, subst}
use mathlib.Core.Bool.{Bool, true, false, cond}
use mathlib.Core.List.{List, [], ◌∷◌, ◌++◌, append_assoc, append-nil}
use native.Mathlib.Omega.{arith}
use lib.Dec.{ltb}
use lib.ListN.{length, drop, length-append, length-drop}
use lib.Seq.{drop-drop}
use borrow.Author.Tests.{lt-ltb, le-ltb, ne_eqb}
use Rattle.output.specs.Answers.{Answer}
use Rattle.model.specs.Sets.{Bytes}
use Rattle.model.specs.Package.{State, empty}
use Rattle.model.specs.Calls.{Call, Start, start_refusal, step, answers, after}
use Rattle.contract.specs.Holds.{Holds}
use Rattle.contract.specs.Ran.{Ran}
use Rattle.model.proofs.Refusals.{changed_done}
use Rattle.script.specs.Calls.{is_call, call_in, call_size}
use Rattle.script.proofs.CallTests.{call_inside}
use Rattle.abi.specs.declared.replies.Reply.{Reply}
use Rattle.abi.specs.Scripts.{reply_size, recorded, unread, span_of, lent_in, Entry, Made, Unread, entries_to, calls_in, size_in, written_for, Scripted, ended, full, strange, made, FromLedger, RunAs}
use Rattle.abi.proofs.Recording.{reply_length}
use Rattle.abi.proofs.Turning.{span_of_none}

no_entries_lem : (f : ℕ) (out : Bytes) → entries_to f [] out ≡ []
unfolding entries_to is_call
no_entries_lem zero out = refl
no_entries_lem (suc f) out = go (ltb (length out) (span_of []))
  where
    go : (b : Bool) → ◌≡◌ {A = List Entry} (cond b [] []) []
    go true = refl
    go false = refl

full_entries : (f : ℕ) (s out : Bytes) → length out < span_of s → entries_to f s out ≡ []
unfolding entries_to
full_entries zero s out l = refl
full_entries (suc f) s out l = rw (lt-ltb (length out) (span_of s) l)

strange_entries : (f : ℕ) (s out : Bytes) → 0 < length s → length s ≤ f → is_call s ≡ false → reply_size ≤ length out → entries_to f s out ≡ Unread ∷ []
unfolding entries_to
strange_entries zero s out z l e r = absurd (omega arith)
strange_entries (suc f) s out z l e r = rw (le-ltb (length out) (span_of s) (omega (arith, span_of_none s e)), e, ne_eqb (length s) 0 (λ y. omega arith))

more_entries : (f : ℕ) (s out : Bytes) → is_call s ≡ true → span_of s ≤ length out → entries_to (suc f) s out ≡ Made (call_in s (lent_in s out)) (lent_in s out) (call_size s) ∷ entries_to f (drop (call_size s) s) (drop (span_of s) out)
unfolding entries_to
more_entries f s out e l = rw (le-ltb (length out) (span_of s) l, e)

-- the first call of the list is the one that the script begins with
first_call : (f : ℕ) (s out : Bytes) → length s ≤ f → is_call s ≡ true → span_of s ≤ length out → (C : ℕ) (cs : List Call) → calls_in (entries_to f s out) ≡ Start C ∷ cs → call_in s (lent_in s out) ≡ Start C
unfolding calls_in
first_call zero s out l c v C cs e = absurd (omega (arith, (call_inside s c).0, (call_inside s c).1))
first_call (suc f) s out l c v C cs e = let x : call_in s (lent_in s out) ∷ calls_in (entries_to f (drop (call_size s) s) (drop (span_of s) out)) ≡ Start C ∷ cs = sym (ap calls_in (more_entries f s out c v)) ∙ e in cc

cons_nothing : {c : Call} {cs : List Call} → ◌≡◌ {A = List Call} [] (c ∷ cs) → ⊥
cons_nothing e = let z : ◌≡◌ {A = ℕ} 0 1 = cc in omega arith

record ByLedger (room : ℕ) (S : State) (es : List Entry) (out q out' : Bytes) (w k m : ℕ) : Type 0 where
  text : out' ≡ written_for es (answers room S (calls_in es)) ++ drop w out
  written : w ≡ length (written_for es (answers room S (calls_in es)))
  read : k ≡ size_in es
  many : m ≡ length (calls_in es)
  holds : Holds q (after room S (calls_in es))

module _ (room : ℕ) where
  none_made : (S : State) (q out : Bytes) → Holds q S → ByLedger room S [] out q out 0 0 0
  unfolding written_for calls_in size_in after
  none_made S q out h = record { text = refl; written = refl; read = refl; many = refl; holds = h }

  unread_made : (S : State) (q out : Bytes) → Holds q S → ByLedger room S (Unread ∷ []) out q (unread ++ drop reply_size out) reply_size 0 0
  unfolding written_for calls_in size_in after unread
  unread_made S q out h = record { text = ap (λ (y : Bytes). y ++ drop reply_size out) (sym (append-nil unread)); written = sym (ap length (append-nil unread) ∙ reply_length _); read = refl; many = refl; holds = h }

  module _ (S : State) (s out r o : Bytes) (a : Answer) (w k m : ℕ) (es : List Entry) where
    more_made : a ≡ (step room S (call_in s (lent_in s out))).0 → length (recorded (call_in s (lent_in s out)) (lent_in s out) a) ≡ span_of s
        → ByLedger room (step room S (call_in s (lent_in s out))).1 es (drop (span_of s) out) r o w k m
        → ByLedger room S (Made (call_in s (lent_in s out)) (lent_in s out) (call_size s) ∷ es) out r (recorded (call_in s (lent_in s out)) (lent_in s out) a ++ o) (span_of s + w) (call_size s + k) (suc m)
    unfolding written_for calls_in size_in answers after
    more_made ea len i =
        let call = call_in s (lent_in s out) in
        let text = recorded call (lent_in s out) a in
        let more = written_for es (answers room (step room S call).1 (calls_in es)) in
        record {
          text = ap (λ (y : Bytes). text ++ y) (i.text ∙ ap (λ (y : Bytes). more ++ y) (drop-drop w (span_of s) out)) ∙ sym (append_assoc text more (drop (span_of s + w) out))
              ∙ ap (λ (x : Answer). (recorded call (lent_in s out) x ++ more) ++ drop (span_of s + w) out) ea;
          written = ap₂ ◌+◌ (sym len) i.written ∙ sym (length-append text more) ∙ ap (λ (x : Answer). length (recorded call (lent_in s out) x ++ more)) ea;
          read = ap (λ (n : ℕ). call_size s + n) i.read;
          many = ap suc i.many;
          holds = i.holds;
        }

  -- a call was made on p, and answered as from S; the rest of the run was as the ledger from there
  made_from : (S : State) (s p out q r out' : Bytes) (a : Answer) (w k m : ℕ) → is_call s ≡ true → span_of s ≤ length out → length (recorded (call_in s (lent_in s out)) (lent_in s out) a) ≡ span_of s
      → (a ≡ (step room S (call_in s (lent_in s out))).0) × Holds q (step room S (call_in s (lent_in s out))).1
      → ((f : ℕ) → length (drop (call_size s) s) ≤ f → Holds q (step room S (call_in s (lent_in s out))).1
      → ByLedger room (step room S (call_in s (lent_in s out))).1 (entries_to f (drop (call_size s) s) (drop (span_of s) out)) (drop (span_of s) out) r out' w k m)
      → (f : ℕ) → length s ≤ f → ByLedger room S (entries_to f s out) out r (recorded (call_in s (lent_in s out)) (lent_in s out) a ++ out') (span_of s + w) (call_size s + k) (suc m)
  made_from S s p out q r out' a w k m c v len g on zero l = absurd (omega (arith, (call_inside s c).0, (call_inside s c).1))
  made_from S s p out q r out' a w k m c v len g on (suc f) l =
      subst (λ (es : List Entry). ByLedger room S es out r (recorded (call_in s (lent_in s out)) (lent_in s out) a ++ out') (span_of s + w) (call_size s + k) (suc m)) (sym (more_entries f s out c v))
      (more_made S s out r out' a w k m (entries_to f (drop (call_size s) s) (drop (span_of s) out)) g.0 len
      (on f (omega (arith, length-drop (call_size s) s, (call_inside s c).0, (call_inside s c).1)) g.1))

  by_ledger : {s p out q out' : Bytes} {w k m : ℕ} → Scripted s p out q out' w k m → (S : State) → room ≡ length p → Holds p S → (f : ℕ) → length s ≤ f → ByLedger room S (entries_to f s out) out q out' w k m
  by_ledger (ended {p} {out}) S e h f l = subst (λ (es : List Entry). ByLedger room S es out p out 0 0 0) (sym (no_entries_lem f out)) (none_made S p out h)
  by_ledger (full {s} {p} {out} r) S e h f l = subst (λ (es : List Entry). ByLedger room S es out p out 0 0 0) (sym (full_entries f s out r)) (none_made S p out h)
  by_ledger (strange {s} {p} {out} z c r) S e h f l =
      subst (λ (es : List Entry). ByLedger room S es out p (unread ++ drop reply_size out) reply_size 0 0) (sym (strange_entries f s out z l c r)) (unread_made S p out h)
  by_ledger (made {s} {p} {out} {q} {r} {out'} {a} {w} {k} {m} c v ran len rest) S e h f l =
      let call = call_in s (lent_in s out) in
      let g : (a ≡ (step room S call).0) × Holds q (step room S call).1 = subst (λ (n : ℕ). (a ≡ (step n S call).0) × Holds q (step n S call).1) (sym e) (ran.ledger S h) in
      made_from S s p out q r out' a w k m c v len g (λ f' l' h'. by_ledger rest (step room S call).1 (e ∙ sym ran.sized) h' f' l') f l

  -- a start minds no bytes
  start_from : (C : ℕ) (p q : Bytes) (a : Answer) → room ≡ length p → start_refusal room C ≡ 0 → Ran (Start C) p a q → (a ≡ (step room (empty C) (Start C)).0) × Holds q (step room (empty C) (Start C)).1
  start_from C p q a e z ran =
      let b = ran.begun.0 (ap (λ (n : ℕ). start_refusal n C) (sym e) ∙ z) in
      subst (λ (x : Answer × State). (a ≡ x.0) × Holds q x.1) (sym (changed_done (start_refusal room C) (empty C) (empty C) z)) b

  by_start : {s p out q out' : Bytes} {w k m : ℕ} → Scripted s p out q out' w k m → (C : ℕ) (cs : List Call) → room ≡ length p → start_refusal room C ≡ 0 → (f : ℕ) → length s ≤ f
      → calls_in (entries_to f s out) ≡ Start C ∷ cs → ByLedger room (empty C) (entries_to f s out) out q out' w k m
  unfolding calls_in
  by_start (ended {p} {out}) C cs e z f l ec = absurd (cons_nothing (sym (ap calls_in (no_entries_lem f out)) ∙ ec))
  by_start (full {s} {p} {out} r) C cs e z f l ec = absurd (cons_nothing (sym (ap calls_in (full_entries f s out r)) ∙ ec))
  by_start (strange {s} {p} {out} y c r) C cs e z f l ec = absurd (cons_nothing (sym (ap calls_in (strange_entries f s out y l c r)) ∙ ec))
  by_start (made {s} {p} {out} {q} {r} {out'} {a} {w} {k} {m} c v ran len rest) C cs e z f l ec =
      let call = call_in s (lent_in s out) in
      let is : call ≡ Start C = first_call f s out l c v C cs ec in
      let g : (a ≡ (step room (empty C) call).0) × Holds q (step room (empty C) call).1 =
      subst (λ (x : Call). (a ≡ (step room (empty C) x).0) × Holds q (step room (empty C) x).1) (sym is) (start_from C p q a e z (subst (λ (x : Call). Ran x p a q) is ran)) in
      made_from (empty C) s p out q r out' a w k m c v len g (λ f' l' h'. by_ledger rest (step room (empty C) call).1 (e ∙ sym ran.sized) h' f' l') f l

-- the promise of a run
from_ledger : (S : State) (s p out q out' : Bytes) (w k m : ℕ) → ByLedger (length p) S (entries_to (length s) s out) out q out' w k m
    → FromLedger S s p out (record { number = 0; count = 3; first = w; second = k; third = m }) out' q
from_ledger S s p out q out' w k m i = record {
  reply = rw (i.written, i.read, i.many);
  output = i.text ∙ ap (λ (n : ℕ). written_for (entries_to (length s) s out) (answers (length p) S (calls_in (entries_to (length s) s out))) ++ drop n out) i.written;
  holds = i.holds;
}

pub run_as : {s p out q out' : Bytes} {w k m : ℕ} {r : Reply} → r ≡ record { number = 0; count = 3; first = w; second = k; third = m }
    → Scripted s p out q out' w k m → RunAs s p out r out' q
run_as {s} {p} {out} {q} {out'} {w} {k} {m} {r} er x = subst (λ (y : Reply). RunAs s p out y out' q) (sym er) (record {
  ledger = λ S h. from_ledger S s p out q out' w k m (by_ledger (length p) x S refl h (length s) (omega arith));
  begun = λ C cs ec z. from_ledger (empty C) s p out q out' w k m (by_start (length p) x C cs refl z (length s) (omega arith) ec);
  ran = x;
  reply = refl;
})
