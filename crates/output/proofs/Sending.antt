-- The laws of what is sent to an output.
-- Assumes nothing.
use Prim.Native.Nat.{ℕ, ◌+◌, ◌-◌, ◌<◌, ◌≤◌, min}
use mathlib.Core.Path.{◌≡◌, ap, ◌∙◌, sym, refl, subst}
use mathlib.Core.List.{List, append_assoc, append-nil, [], ◌++◌, ◌∷◌}
use native.Mathlib.Nat.{zero-add}
use native.Mathlib.Omega.{arith}
use lib.ListN.{length, take, drop, length-append, length-drop, drop_of_length-le}
use lib.Seq.{drop-drop, length-take-le, take_at}
use Rattle.base.specs.Buffer.{splice}
use Rattle.base.proofs.Lists.{take_rest}
use Rattle.base.proofs.Copies.{splice_nil}
use Rattle.base.proofs.Parts.{length_splice}
use Rattle.base.proofs.Writes.{write, join}
use Rattle.output.specs.Sends.{Sent, Fitted}

-- nothing is sent yet
pub sent_none : (o : List ℕ) (at : ℕ) → Sent o at [] at o
sent_none o at = record { next_is = omega arith; fits = λ f. splice_nil o at }

-- one text after another
pub sent_more : (o o₁ o₂ b c : List ℕ) (at m n : ℕ) → Sent o at b m o₁ → length o₁ ≡ length o → Sent o₁ m c n o₂
    → Sent o at (b ++ c) n o₂
sent_more o o₁ o₂ b c at m n r l s = record {
  next_is = s.next_is ∙ ap (λ (k : ℕ). k + length c) r.next_is ∙ simp length-append (omega arith);
  fits = λ f.
      let len : length (b ++ c) ≡ length b + length c = length-append b c in
      let p = write o o₁ at (length b) b (r.fits (omega arith)) refl (omega arith) in
      let q = write o₁ o₂ m (length c) c (s.fits (omega (arith, r.next_is))) refl (omega (arith, r.next_is)) in
      (join m (length c) p q r.next_is).is;
}

-- the same text in other words
pub sent_as : (o o' t u : List ℕ) (at n : ℕ) → u ≡ t → Sent o at t n o' → Sent o at u n o'
sent_as o o' t u at n e s = subst (λ (x : List ℕ). Sent o at x n o') (sym e) s

-- what was sent to the part from k on was sent to place `at`
pub sent_rest :
    (out text ys : List ℕ) (at k n : ℕ) → k ≡ min at (length out) → Sent (take (length out - k) (drop k out)) 0 text n ys →
    Sent out at text (at + n) (take k out ++ (ys ++ drop (length out - k) (drop k out)))
unfolding splice
sent_rest out text ys at k n ek s = record {
  next_is = omega (arith, s.next_is);
  fits = λ f.
      let e : k ≡ at = omega arith in
      let r : take (length out - k) (drop k out) ≡ drop at out = take_rest out k ∙ ap (λ (i : ℕ). drop i out) e in
      let d : drop (length out - k) (drop k out) ≡ [] =
      drop_of_length-le (drop k out) {i = length out - k} (omega (arith, length-drop k out)) in
      let y : ys ≡ text ++ drop (at + length text) out =
      s.fits (rw (r, length-drop) (omega arith)) ∙ rw (r, zero-add (length text), drop-drop (length text) at out) in
      rw (d, append-nil ys, y, e) (sym (append_assoc (take at out) text (drop (at + length text) out)));
}

-- what was sent stands behind what stood there before
pub sent_front : (o o₁ t : List ℕ) (at n : ℕ) → Sent o at t n o₁ → n ≤ length o → take n o₁ ≡ take at o ++ t
unfolding splice
sent_front o o₁ t at n s l =
    let e : at + length t ≤ length o = omega (arith, s.next_is) in
    let h : length (take at o ++ t) ≡ n =
    length-append (take at o) t ∙ ap (λ (k : ℕ). k + length t) (length-take-le at o (omega arith)) ∙ sym s.next_is in
    ap (take n) (s.fits e) ∙ take_at (take at o ++ t) (drop (at + length t) o) n h

-- what was sent to the start of an output stands there
module _ (o o₁ t : List ℕ) (n : ℕ) (s : Sent o 0 t n o₁) where
  pub sent_start : length t ≤ length o → o₁ ≡ t ++ drop (length t) o
  unfolding splice
  sent_start l = s.fits (omega arith) ∙ rw (zero-add (length t))

  pub sent_text : n ≤ length o → take n o₁ ≡ t
  sent_text l = sent_front o o₁ t 0 n s l

-- two texts that were written to the start, one behind the other, are one
pub sent_both : (o o₁ o₂ a b : List ℕ) → o₁ ≡ splice o 0 a → o₂ ≡ splice o₁ (length a) b → length a + length b ≤ length o
    → o₂ ≡ (a ++ b) ++ drop (length (a ++ b)) o
sent_both o o₁ o₂ a b e f l =
    let size : length o₁ ≡ length o = ap length e ∙ length_splice o 0 a (omega arith) in
    let first : Sent o 0 a (length a) o₁ = record { next_is = omega arith; fits = λ _. e } in
    let then : Sent o₁ (length a) b (length a + length b) o₂ = record { next_is = refl; fits = λ _. f } in
    sent_start o o₂ (a ++ b) (length a + length b) (sent_more o o₁ o₂ a b 0 (length a) (length a + length b) first size then)
    (rw length-append l)

-- a part of no bytes that was lent stays as it was: out[..0]
pub append_none : (ys out : List ℕ) → length ys ≡ 0 → ys ++ drop 0 out ≡ out
append_none [] out h = refl
append_none (y ∷ ys) out h = absurd (omega arith)

-- LENGTH FIRST. A text of n bytes, sent once to no bytes at all: it is too long, or is sent again
module _ (t w ys out : List ℕ) (n : ℕ) (s : Sent w 0 t n ys) (z : length ys ≡ 0) where
  pub fitted_none : length (ys ++ out) < n → Fitted out t n (ys ++ out)
  fitted_none l =
      let k = append_none ys out z in
      let l' : length out < n = rw k at l in
      record { is = s.next_is ∙ zero-add (length t); fits = λ f. absurd (omega arith); short = λ _. k }

  pub fitted_sent : (m : ℕ) (out' : List ℕ) → n ≤ length (ys ++ out) → Sent (ys ++ out) 0 t m out' → Fitted out t m out'
  fitted_sent m out' l r =
      let k : ys ++ out ≡ out = append_none ys out z in
      let l' : n ≤ length out = rw k at l in
      let i : m ≡ length t = r.next_is ∙ zero-add (length t) in
      record {
        is = i;
        fits = λ f. sent_start (ys ++ out) out' t m r (omega (arith, s.next_is)) ∙ rw (k, i);
        short = λ f. absurd (omega (arith, s.next_is));
      }
