-- What a line does: one law for each way out.
-- Assumes nothing.
use Prim.Native.Nat.{ℕ}
use mathlib.Core.Path.{◌≡◌, refl, ap, sym, ◌∙◌, subst}
use native.Mathlib.Omega.{arith}
use Rattle.std.specs.Prelude.{Result, Ok, Err, Some, None}
use Rattle.output.specs.Answers.{Answer}
use Rattle.output.specs.Refusals.{number, number_of}
use Rattle.output.specs.declared.refusals.Refusal.{Refusal}
use Rattle.output.specs.Sends.{Sent}
use Rattle.output.proofs.Answering.{number_some}
use Rattle.model.specs.Sets.{Bytes}
use Rattle.model.specs.Calls.{Change, Changes}
use Rattle.model.specs.Sheet.{Line, Does, Lists, Unreadable, line_read, number_line, shown_by}
use Rattle.contract.specs.Answers.{of_done}
use Rattle.contract.specs.Holds.{Holds}
use Rattle.contract.specs.Ran.{Ran}
use Rattle.contract.specs.Opening.{turned_number}
use Rattle.contract.proofs.Opening.{never_turned}
use Rattle.lines.specs.Reading.{Parsed, line_as}
use Rattle.lines.specs.declared.parsing.Command.{Command}
use Rattle.lines.proofs.Sends.{answer_length}
use Rattle.commands.specs.Listings.{ListingSent}
use Rattle.commands.specs.Running.{ChangeRun, LineRun}

-- A CHANGE
pub change_run : (c d : Change) (p : Bytes) (w : Result Unit Refusal) (q : Bytes) (n : ℕ) → Ran (Changes c) p (of_done w) q → c ≡ d
    → n ≡ number_of w → ChangeRun d p n q
change_run c d p w q n r e en = subst (λ (x : Change). ChangeRun x p n q) e (record {
  is = λ S h. let s = r.ledger S h in (en ∙ done_number w ∙ ap (λ (x : Answer). x.number) s.0, s.1);
  size = r.sized;
})
  where
    done_number : (v : Result Unit Refusal) → number_of v ≡ (of_done v).number
    done_number (Ok x) = refl
    done_number (Err f) = refl

-- A LISTING of bytes that are turned away is free
pub listing_foreign : (p : Bytes) (r : Refusal) → number r ≡ turned_number p → (out : Bytes) (n : ℕ) (out' : Bytes)
    → Sent out 0 (number_line (number r)) n out' → ListingSent p out n out'
listing_foreign p r e out n out' s = record {
  few = omega (arith, s.next_is, answer_length (number r));
  is = λ S h. never_turned p S h (number r) e (number_some r);
}

-- A LINE that reads as a command d
pub parsed_as : {l : Bytes} {r d : Command} → Parsed l (Some r) → r ≡ d → Parsed l (Some d)
parsed_as {l} p e = subst (λ (x : Command). Parsed l (Some x)) e p

module _ (p l out : Bytes) (n : ℕ) (out' : Bytes) (r d : Command) (w : Parsed l (Some r)) (rd : r ≡ d) where
  reads : line_as (Some d) l ≡ line_read l
  reads = (parsed_as w rd).reads

  pub line_does : (c : Change) (k : ℕ) (q : Bytes) → ChangeRun c p k q → line_as (Some d) l ≡ Does c → Sent out 0 (number_line k) n out' → LineRun p l out n q out'
  line_does c k q x is s = let e : Does c ≡ line_read l = sym is ∙ reads in record {
    shows = λ S h. subst (λ (x : Line). Sent out 0 (shown_by S x).0 n out') e (subst (λ (m : ℕ). Sent out 0 (number_line m) n out') (x.is S h).0 s);
    holds = λ S h. subst (λ (x : Line). Holds q (shown_by S x).1) e (x.is S h).1;
    size = x.size;
    few = omega (arith, s.next_is, answer_length k);
  }

  pub line_lists : line_as (Some d) l ≡ Lists → ListingSent p out n out' → LineRun p l out n p out'
  line_lists is x = let e : Lists ≡ line_read l = sym is ∙ reads in record {
    few = x.few;
    shows = λ S h. subst (λ (x : Line). Sent out 0 (shown_by S x).0 n out') e (x.is S h);
    holds = λ S h. subst (λ (x : Line). Holds p (shown_by S x).1) e h;
    size = refl;
  }

-- a line that reads as none
pub line_unreadable : (p l out : Bytes) (n : ℕ) (out' : Bytes) → Parsed l None → (k : ℕ) → k ≡ 16 → Sent out 0 (number_line k) n out'
    → LineRun p l out n p out'
line_unreadable p l out n out' w k ek s =
    let e : Unreadable ≡ line_read l = w.reads in
    record {
      few = omega (arith, s.next_is, answer_length k);
      shows = λ S h. subst (λ (x : Line). Sent out 0 (shown_by S x).0 n out') e (subst (λ (m : ℕ). Sent out 0 (number_line m) n out') ek s);
      holds = λ S h. subst (λ (x : Line). Holds p (shown_by S x).1) e h;
      size = refl;
    }
