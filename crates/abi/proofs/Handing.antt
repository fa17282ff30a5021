-- Answers handed over by replies.
-- Assumes nothing.
use Prim.Native.Nat.{ℕ, zero, suc, ◌-◌, ◌≤◌}
use mathlib.Core.Path.{◌≡◌, refl, ap, sym, ◌∙◌, subst}
use mathlib.Core.List.{List, ◌∷◌}
use native.Mathlib.Omega.{arith}
use lib.ListN.{length, replicate, get_or, length-replicate}
use Rattle.output.specs.Answers.{Answer, answer, refusing}
use Rattle.output.specs.Refusals.{number}
use Rattle.output.specs.declared.refusals.Refusal.{Refusal}
use Rattle.model.specs.Calls.{Call}
use Rattle.contract.specs.Ran.{Ran}
use Rattle.abi.specs.declared.replies.Reply.{Reply}
use Rattle.entries.specs.Promise.{EntryRan}
use Rattle.abi.specs.Replies.{reply_of, HandsOver, values_of, Replied, EntryReplied}

-- the answer b in other words
pub hands : (a b : Answer) (n : ℕ) (r : Reply) (out : List ℕ) → r ≡ reply_of a → a.output ≡ out → length a.values ≡ n → b ≡ a → HandsOver b n r out
hands a b n r out f o v e = subst (λ (x : Answer). HandsOver x n r out) (sym e) (record { reply = f; output = o; values = v })

pub handed_as : {a b : Answer} {n : ℕ} {r : Reply} {out : List ℕ} → a ≡ b → HandsOver a n r out → HandsOver b n r out
handed_as {a} {b} {n} {r} {out} e h = subst (λ (x : Answer). HandsOver x n r out) e h

-- no value but 0
zeros : (count i : ℕ) → ◌≡◌ {A = ℕ} (get_or (replicate count 0) i 0) 0
zeros zero i = refl
zeros (suc count) zero = refl
zeros (suc count) (suc i) = zeros count i

pub hands_refusal : (count : ℕ) (f : Refusal) (r : Reply) (out : List ℕ)
    → r ≡ record { number = number f; count = count; first = 0; second = 0; third = 0 } → HandsOver (refusing count f out) count r out
hands_refusal count f r out e = record {
  reply = e ∙ rw (length-replicate {A = ℕ} count 0, zeros count 0, zeros count 1, zeros count 2);
  output = refl;
  values = length-replicate {A = ℕ} count 0;
}

pub hands_short : (count n : ℕ) (r : Reply) (out : List ℕ) → 1 ≤ count
    → r ≡ record { number = 3; count = count; first = n; second = 0; third = 0 } → HandsOver (answer 3 (n ∷ replicate (count - 1) 0) out) count r out
hands_short count n r out l e =
    let size : length (n ∷ replicate (count - 1) 0) ≡ count = ap suc (length-replicate {A = ℕ} (count - 1) 0) ∙ omega arith in
    record { reply = e ∙ rw (size, zeros (count - 1) 0, zeros (count - 1) 1); output = refl; values = size }

-- a call on a package
pub replied : {call : Call} {p : List ℕ} {a : Answer} {q : List ℕ} {r : Reply} {out : List ℕ} → Ran call p a q
    → HandsOver a (values_of call) r out → Replied call p r out q
replied {call} {p} {a} {q} x h = record { answered = a; ran = x; handed = h }

-- the call that copies an entry's field
pub entry_replied : {set position field : ℕ} {output p : List ℕ} {a : Answer} {r : Reply} {out : List ℕ} → EntryRan set position field output p a
    → HandsOver a 2 r out → EntryReplied set position field output p r out
entry_replied {set} {position} {field} {output} {p} {a} x h = record { answered = a; ran = x; handed = h }
