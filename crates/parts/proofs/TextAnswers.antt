-- The ways out of a call that writes one text: one law for each, for every such call.
-- Assumes nothing.
use Prim.Native.Nat.{ℕ}
use mathlib.Core.Path.{◌≡◌, refl, sym, subst, ◌∙◌}
use mathlib.Core.List.{List, [], ◌∷◌}
use mathlib.Core.Logic.{⊎_elim}
use native.Mathlib.Omega.{arith}
use lib.ListN.{length}
use Rattle.output.specs.Answers.{Answer, answer, written, Text, Refused, filled}
use Rattle.output.proofs.Answering.{answer_kept, filled_number}
use Rattle.model.specs.Package.{State}
use Rattle.model.specs.Calls.{Print, Prints, Numbered, printed, value_count}
use Rattle.model.proofs.Numbers.{numbered, zero_numbered}
use Rattle.contract.specs.Holds.{Holds}
use Rattle.contract.specs.Ran.{Ran}
use Rattle.contract.specs.Opening.{Open}
use Rattle.contract.proofs.Rans.{wrote}

-- a text that is written, or too long
pub text_numbered : (count : ℕ) (out t vs : List ℕ) (a : Answer) → a ≡ filled count out (Text t vs) → Numbered a.number
text_numbered count out t vs a e =
    subst (λ (x : Answer). Numbered x.number) (sym e)
    (⊎_elim (λ z. subst Numbered (sym z) zero_numbered) (λ z. subst Numbered (sym z) (numbered 3 (omega arith) (omega arith)))
    (filled_number count out t vs))

module _ (b : List ℕ) (t : Open b) (w : Print) (v : value_count w ≡ 1) (out : List ℕ) where
  pub text_refused : (n : ℕ) → Numbered n → ((S : State) → Holds b S → printed S (length out) w ≡ Refused n) → Ran (Prints w out) b (answer n (0 ∷ []) out) b
  unfolding filled
  text_refused n u e = wrote b t w out (answer n (0 ∷ []) out) u (λ _. refl) (λ S h. rw (e S h, v))

  pub text_answered : (s : List ℕ) (a : Answer) → a ≡ written (Text s []) out
      → ((S : State) → Holds b S → printed S (length out) w ≡ Text s []) → Ran (Prints w out) b a b
  text_answered s a ea e =
      wrote b t w out a (text_numbered 1 out s [] a ea) (answer_kept 1 out (Text s []) a ea) (λ S h. ea ∙ rw (e S h, v))
