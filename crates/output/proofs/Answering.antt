-- The answers of a call that writes.
-- Assumes nothing.
use Prim.Native.Nat.{ℕ, ◌-◌, ◌<◌, ◌≤◌}
use mathlib.Core.Path.{◌≡◌, ap, sym, ◌∙◌, refl}
use mathlib.Core.Bool.{Bool, false, true}
use mathlib.Core.List.{List, [], ◌++◌, ◌∷◌}
use mathlib.Core.Logic.{◌⊎◌, inl, inr}
use native.Mathlib.Omega.{arith}
use lib.Dec.{leb, eqb}
use lib.ListN.{length, drop, replicate}
use borrow.Author.Tests.{lt-leb, le-leb, leb-true, ne_eqb}
use Rattle.output.specs.Answers.{Outcome, Refused, Text, unless, Answer, answer, choose, of_written, filled, written}
use Rattle.output.specs.Refusals.{number, number_of}
use Rattle.output.specs.declared.refusals.Refusal.{Refusal}
use Rattle.output.specs.declared.refusals.Refusal.TheVariants as refusal
use Rattle.output.specs.declared.refusals.Unwritten.TheVariants as unwritten
use Rattle.std.specs.Prelude.{Result, Ok, Err, IsErrAnd, is_err}
use Rattle.std.proofs.lemmas.Result.{err_from_is_err_and}
use Rattle.output.specs.declared.refusals.Unwritten.{Unwritten}
use Rattle.output.specs.Sends.{Sent, Fitted}
use Rattle.output.proofs.Sending.{append_none, fitted_none, fitted_sent}

-- no refusal has the number 0, which says that nothing is refused
pub number_some : (r : Refusal) → number r ≡ 0 → ⊥
number_some refusal.NotAPackage e = omega arith
number_some refusal.BadStart e = omega arith
number_some refusal.OutputTooShort e = omega arith
number_some refusal.NotAPartName e = omega arith
number_some refusal.Reserved e = omega arith
number_some refusal.BadSuffix e = omega arith
number_some refusal.BadType e = omega arith
number_some refusal.BadRelationshipField e = omega arith
number_some refusal.BadTarget e = omega arith
number_some refusal.Taken e = omega arith
number_some refusal.Derivable e = omega arith
number_some refusal.PiecesDisagree e = omega arith
number_some refusal.NotHeld e = omega arith
number_some refusal.NoMediaType e = omega arith
number_some refusal.Full e = omega arith
number_some refusal.UnreadableLine e = omega arith
number_some refusal.BadPieceCount e = omega arith
number_some refusal.WrongForm e = omega arith
number_some refusal.MalformedStream e = omega arith
number_some refusal.TooDeep e = omega arith

pub unless_refused : (k : ℕ) (o : Outcome) → (k ≡ 0 → ⊥) → unless k o ≡ Refused k
unless_refused k o z = rw (ne_eqb k 0 z)

-- a refusal, of an outcome that is refused by its number
pub answer_refused : (o : Outcome) (r : Refusal) (out : List ℕ) → o ≡ Refused (number r)
    → of_written (Err (unwritten.Refused r)) out ≡ written o out
unfolding filled
answer_refused o r out e = rw e

-- a judgement that is an error has a number, and one that is none has not
pub err_some : {A : Type 0} → (w : Result A Refusal) → is_err w ≡ true → number_of w ≡ 0 → ⊥
err_some (Ok x) e z = cc e
err_some (Err r) e z = number_some r z

pub err_none : {A : Type 0} → (w : Result A Refusal) → is_err w ≡ false → number_of w ≡ 0
err_none (Ok x) e = refl
err_none (Err r) e = absurd (cc e)

-- what `?` passes on of a refusal
pub refused_on : {A : Type 0} → (r : Refusal) (w : Result A Refusal) → IsErrAnd w (λ e. e ≡ r) → w ≡ Err r
refused_on r w e = let p = err_from_is_err_and w e in rw (p.1, p.2)

-- the same, in a call that writes
pub passed_on : {A : Type 0} → (r : Refusal) (w : Result A Unwritten) → IsErrAnd w (λ u. u ≡ unwritten.Refused r)
    → w ≡ Err (unwritten.Refused r)
passed_on r w e = let p = err_from_is_err_and w e in rw (p.1, p.2)

pub answer_passed_on : (o : Outcome) (r : Refusal) (out : List ℕ) (w : Result ℕ Unwritten)
    → IsErrAnd w (λ u. u ≡ unwritten.Refused r) → o ≡ Refused (number r) → of_written w out ≡ written o out
answer_passed_on o r out w p e = rw (passed_on r w p) (answer_refused o r out e)

-- a text that is too long, or written
module _ (count : ℕ) (o : Outcome) (t vs out out' : List ℕ) (n : ℕ) (e : o ≡ Text t vs) (f : n ≡ length t) where
  pub answer_short : length out < n → out' ≡ out → answer 3 (n ∷ replicate (count - 1) 0) out' ≡ filled count out o
  unfolding filled
  answer_short l k =
      let g : leb (length t) (length out) ≡ false = lt-leb (length t) (length out) (omega arith) in
      rw (e, g, f, k)

  pub answer_bytes : n ≤ length out → out' ≡ t ++ drop (length t) out → answer 0 (n ∷ vs) out' ≡ filled count out o
  unfolding filled
  answer_bytes l k =
      let g : leb (length t) (length out) ≡ true = le-leb (length t) (length out) (omega arith) in
      rw (e, g, f, k)

-- the same, of a text that was written where it fits
module _ (count : ℕ) (o : Outcome) (t vs out out' : List ℕ) (n : ℕ) (e : o ≡ Text t vs) (f : Fitted out t n out')
    (l : length out' ≡ length out) where
  pub fitted_short : length out' < n → answer 3 (n ∷ replicate (count - 1) 0) out' ≡ filled count out o
  fitted_short s = answer_short count o t vs out out' n e f.is (omega arith) (f.short (omega arith))

  pub fitted_bytes : n ≤ length out' → answer 0 (n ∷ vs) out' ≡ filled count out o
  fitted_bytes s = answer_bytes count o t vs out out' n e f.is (omega arith) (f.fits (omega arith) ∙ rw f.is)

-- the same, of a text whose length was told first
module _ (o : Outcome) (t w ys out : List ℕ) (n : ℕ) (e : o ≡ Text t []) (s : Sent w 0 t n ys) (z : length ys ≡ 0) where
  kept : ys ++ out ≡ out
  kept = append_none ys out z

  pub dry_short : length (ys ++ out) < n → of_written (Err (unwritten.TooShort n)) (ys ++ out) ≡ written o out
  dry_short l = fitted_short 1 o t [] out (ys ++ out) n e (fitted_none t w ys out n s z l) (rw kept) l

  pub dry_bytes : (m : ℕ) (out' : List ℕ) → n ≤ length (ys ++ out) → Sent (ys ++ out) 0 t m out'
      → of_written (Ok m) out' ≡ written o out
  dry_bytes m out' l r =
      let d = fitted_sent t w ys out n s z m out' l r in
      let l' : n ≤ length out = rw kept at l in
      answer_bytes 1 o t [] out out' m e d.is (omega (arith, d.is, s.next_is))
      (d.fits (omega (arith, d.is, s.next_is)) ∙ rw d.is)

-- the answer of a call that wrote a text
module _ (count : ℕ) (out t vs : List ℕ) where
  abbrev answer_where : Bool → Answer
  answer_where b = choose b (answer 0 (length t ∷ vs) (t ++ drop (length t) out)) (answer 3 (length t ∷ replicate (count - 1) 0) out)

  pub filled_fits : length t ≤ length out → filled count out (Text t vs) ≡ answer 0 (length t ∷ vs) (t ++ drop (length t) out)
  unfolding filled
  filled_fits l = rw (le-leb (length t) (length out) l)

  pub filled_accepted : eqb (filled count out (Text t vs)).number 0 ≡ leb (length t) (length out)
  unfolding filled
  filled_accepted = go (leb (length t) (length out))
    where
      go : (b : Bool) → eqb (answer_where b).number 0 ≡ b
      go true = refl
      go false = refl

  -- it is written, or too long
  pub filled_number : ((filled count out (Text t vs)).number ≡ 0) ⊎ ((filled count out (Text t vs)).number ≡ 3)
  unfolding filled
  filled_number = go (leb (length t) (length out))
    where
      go : (b : Bool) → ((answer_where b).number ≡ 0) ⊎ ((answer_where b).number ≡ 3)
      go true = inl refl
      go false = inr refl

  pub filled_written : (filled count out (Text t vs)).number ≡ 0
      → filled count out (Text t vs) ≡ answer 0 (length t ∷ vs) (t ++ drop (length t) out)
  filled_written e = filled_fits (leb-true (length t) (length out) (sym filled_accepted ∙ ap (λ (n : ℕ). eqb n 0) e))

-- a call that answers another number than 0 keeps its output
pub filled_kept : (count : ℕ) (out : List ℕ) (o : Outcome) → ((filled count out o).number ≡ 0 → ⊥)
    → (filled count out o).output ≡ out
unfolding filled
filled_kept count out (Refused k) h = refl
filled_kept count out (Text t vs) h = go (leb (length t) (length out)) h
  where
    go : (b : Bool) → ((answer_where count out t vs b).number ≡ 0 → ⊥) → (answer_where count out t vs b).output ≡ out
    go true h = absurd (h refl)
    go false h = refl

pub answer_kept : (count : ℕ) (out : List ℕ) (o : Outcome) (a : Answer) → a ≡ filled count out o → (a.number ≡ 0 → ⊥)
    → a.output ≡ out
answer_kept count out o a e h =
    ap (λ (x : Answer). x.output) e ∙ filled_kept count out o (λ z. h (ap (λ (x : Answer). x.number) e ∙ z))
