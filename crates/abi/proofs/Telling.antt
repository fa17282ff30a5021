-- A call of a script, made through its exported function: what the export promises is what the script is told.
-- Assumes nothing.
use Prim.Native.Nat.{ℕ, ◌+◌, ◌-◌}
use mathlib.Core.Path.{◌≡◌, refl, ap, sym, ◌∙◌, subst}
use mathlib.Core.List.{[], ◌∷◌, ◌++◌}
use native.Mathlib.Omega.{arith}
use lib.ListN.{length, take, drop, get_or}
use Rattle.output.specs.Answers.{Answer, answer}
use Rattle.model.specs.Sets.{Bytes}
use Rattle.model.specs.Calls.{Print, View, Totals, Call, Looks, TypeOrigin, Prints}
use Rattle.base.specs.Buffer.{part}
use Rattle.base.proofs.Parts.{length_part}
use Rattle.contract.specs.Answers.{of_view}
use Rattle.items.specs.Spans.{Viewed}
use Rattle.script.specs.Calls.{calls, coded}
use Rattle.abi.specs.declared.replies.Reply.{Reply}
use Rattle.abi.specs.Replies.{reply_of, Replied}
use Rattle.abi.specs.Scripts.{told, left}
use Rattle.abi.specs.Turns.{Told}

-- a code that is known
pub told_coded : (k code n : ℕ) (a b c d o p lent : Bytes) (r : Reply) (lent' q : Bytes) → code ≡ k → Told (get_or (calls n a b c d o) (k - 1) (Looks Totals)) p lent r lent' q
    → Told (coded code n a b c d o) p lent r lent' q
unfolding coded
told_coded k code n a b c d o p lent r lent' q e x = subst (λ (i : ℕ). Told (get_or (calls n a b c d o) (i - 1) (Looks Totals)) p lent r lent' q) (sym e) x

-- a call that writes nothing: it leaves what it is lent, and the script is told all of its answer
pub told_plain : {call : Call} {p : Bytes} {r : Reply} {q : Bytes} → ((a : Answer) → told call a ≡ a) → ((lent : Bytes) (a : Answer) → left call lent a ≡ lent)
    → Replied call p r [] q → (lent : Bytes) → Told call p lent r lent q
told_plain et el x lent = record { answered = x.answered; ran = x.ran; reply = x.handed.reply ∙ ap reply_of (sym (et x.answered)); is = sym (el lent x.answered) }

-- a call that writes into what it is lent
told_lent : {call : Call} {p : Bytes} {r : Reply} {lent lent' q : Bytes} → ((a : Answer) → told call a ≡ a) → ((a : Answer) → left call lent a ≡ a.output)
    → Replied call p r lent' q → Told call p lent r lent' q
told_lent et el x = record {
  answered = x.answered;
  ran = x.ran;
  reply = x.handed.reply ∙ ap reply_of (sym (et x.answered));
  is = sym (el x.answered ∙ x.handed.output);
}

pub told_print : {w : Print} {p : Bytes} {r : Reply} {lent lent' q : Bytes} → Replied (Prints w lent) p r lent' q → Told (Prints w lent) p lent r lent' q
told_print x = told_lent (λ a. refl) (λ a. refl) x

pub told_origin : {name p : Bytes} {r : Reply} {lent lent' q : Bytes} → Replied (TypeOrigin name lent) p r lent' q → Told (TypeOrigin name lent) p lent r lent' q
told_origin x = told_lent (λ a. refl) (λ a. refl) x

-- a view: its part, from a on, n bytes
pub told_view : (name p out out' : Bytes) (a n : ℕ) (r : Reply) → Viewed name p a n → r ≡ reply_of (answer 0 (n ∷ []) [])
    → out' ≡ take (length out) (take (a + n - a) (drop a p)) ++ drop (length (take (a + n - a) (drop a p))) out → Told (Looks (View name)) p out r out' p
unfolding part
told_view name p out out' a n r v er eo =
    let z : a + n - a ≡ n = omega arith in
    record {
      answered = of_view (part a n p);
      ran = v.ran;
      reply = er ∙ ap (λ (i : ℕ). reply_of (answer 0 (i ∷ []) [])) (sym (length_part a n p v.inside));
      is = eo ∙ ap (λ (i : ℕ). take (length out) (take i (drop a p)) ++ drop (length (take i (drop a p))) out) z;
    }
