-- What is written for a call: its reply, then the bytes that it was lent.
-- Assumes nothing.
use Prim.Native.Nat.{ℕ, ◌+◌, ◌-◌, ◌≤◌, ◌<◌, min}
use mathlib.Core.Path.{◌≡◌, refl, ap, sym, ◌∙◌}
use mathlib.Core.Bool.{Bool, true, false}
use mathlib.Core.List.{List, ◌++◌, append_assoc}
use native.Mathlib.Omega.{arith}
use native.Mathlib.Nat.{zero-add}
use lib.Dec.{leb}
use lib.ListN.{length, take, drop, length-take, drop_of_length-le}
use lib.Seq.{take_all, length-take-le, drop_at, drop-drop}
use borrow.Author.Tests.{leb-true, leb-false}
use Rattle.base.specs.Buffer.{splice}
use Rattle.store.specs.Buffer.{le4}
use Rattle.base.proofs.Writes.{join}
use Rattle.script.specs.Numbers.{le8}
use Rattle.script.proofs.EightBytes.{le8_write}
use Rattle.abi.specs.declared.replies.Reply.{Reply}
use Rattle.abi.specs.Scripts.{reply_size, reply_bytes}

pub reply_length : (r : Reply) → length (reply_bytes r) ≡ reply_size
unfolding reply_bytes le8 le4
reply_length r = refl

pub put_reply_is : (l m1 m2 m3 m4 m5 : List ℕ) (r : Reply) → reply_size ≤ length l → m1 ≡ splice l 0 (le8 r.number) → m2 ≡ splice m1 8 (le8 r.count)
    → m3 ≡ splice m2 16 (le8 r.first) → m4 ≡ splice m3 24 (le8 r.second) → m5 ≡ splice m4 32 (le8 r.third) → m5 ≡ splice l 0 (reply_bytes r)
unfolding reply_bytes
put_reply_is l m1 m2 m3 m4 m5 r h e1 e2 e3 e4 e5 =
    let q1 = le8_write l m1 0 r.number e1 (omega arith) in
    let q2 = le8_write m1 m2 8 r.count e2 (omega arith) in
    let q3 = le8_write m2 m3 16 r.first e3 (omega arith) in
    let q4 = le8_write m3 m4 24 r.second e4 (omega arith) in
    let q5 = le8_write m4 m5 32 r.third e5 (omega arith) in
    (join 32 8 (join 24 8 (join 16 8 (join 8 8 q1 q2 refl) q3 refl) q4 refl) q5 refl).is ∙ ap (splice l 0) (simp append_assoc)

-- a splice at the start
pub spliced_start : (l s : List ℕ) → splice l 0 s ≡ s ++ drop (length s) l
unfolding splice
spliced_start l s = ap (λ (n : ℕ). s ++ drop n l) (zero-add (length s))

-- as much of a text as the output takes
pub some_fits : (text out : List ℕ) (n : ℕ) → n ≤ length out → 0 + length (take n text) ≤ length out
some_fits text out n l = omega (arith, length-take n text)

pub copied_some : (text out out' : List ℕ) (n : ℕ) → n ≡ min (length text) (length out) → out' ≡ splice out 0 (take n text) → out' ≡ take (length out) text ++ drop (length text) out
copied_some text out out' n e s =
    let k : length (take n text) ≡ n = length-take-le n text (omega arith) in
    s ∙ spliced_start out (take n text) ∙ ap (λ (i : ℕ). take n text ++ drop i out) k ∙ go (leb (length text) (length out)) refl
  where
    go : (b : Bool) → leb (length text) (length out) ≡ b → take n text ++ drop n out ≡ take (length out) text ++ drop (length text) out
    go true f =
        let l : length text ≤ length out = leb-true (length text) (length out) f in
        let m : n ≡ length text = omega arith in
        rw (take_all n text (omega arith), take_all (length out) text l, m)
    go false f =
        let l : length out < length text = leb-false (length text) (length out) f in
        let m : n ≡ length out = omega arith in
        rw (m, drop_of_length-le out {i = length out} (omega arith), drop_of_length-le out {i = length text} (omega arith))

-- a reply was written before the bytes that the call was lent, up to place e
pub recorded_is : (out ys out₁ out₂ : List ℕ) (e : ℕ) (r : Reply) → reply_size ≤ e → e ≤ length out → out₁ ≡ take reply_size out ++ (ys ++ drop (e - reply_size) (drop reply_size out))
    → out₂ ≡ splice out₁ 0 (reply_bytes r) → out₂ ≡ (reply_bytes r ++ ys) ++ drop e out
recorded_is out ys out₁ out₂ e r a b f g =
    let k : length (take reply_size out) ≡ reply_size = length-take-le reply_size out (omega arith) in
    g ∙ spliced_start out₁ (reply_bytes r)
    ∙ ap (λ (n : ℕ). reply_bytes r ++ drop n out₁) (reply_length r)
    ∙ ap (λ (l : List ℕ). reply_bytes r ++ drop reply_size l) f
    ∙ ap (λ (l : List ℕ). reply_bytes r ++ l) (drop_at (take reply_size out) (ys ++ drop (e - reply_size) (drop reply_size out)) reply_size k)
    ∙ ap (λ (l : List ℕ). reply_bytes r ++ (ys ++ l)) (drop-drop (e - reply_size) reply_size out ∙ ap (λ (n : ℕ). drop n out) (let z : reply_size + (e - reply_size) ≡ e = omega arith in z))
    ∙ sym (append_assoc (reply_bytes r) ys (drop e out))
