-- A run of a script, turn by turn.
-- Assumes nothing.
use Prim.Native.Nat.{ℕ, suc, ◌+◌, ◌-◌, ◌≤◌, ◌<◌}
use mathlib.Core.Path.{◌≡◌, refl, ap, sym, ◌∙◌, subst}
use mathlib.Core.List.{[], ◌++◌, append_assoc, append-nil}
use native.Mathlib.Omega.{arith}
use native.Mathlib.Nat.{zero-add, add-zero}
use lib.ListN.{length, take, drop, length-append, length-drop, take-append-drop, drop_of_length-le}
use lib.Seq.{take_at, drop_at, drop-drop, length-take-le, take-append-add, drop-append-add}
use Rattle.base.proofs.Lists.{take_rest}
use Rattle.model.specs.Sets.{Bytes}
use Rattle.script.specs.Calls.{call_size, call_in}
use Rattle.script.proofs.CallTests.{call_inside}
use Rattle.abi.specs.Scripts.{reply_size, recorded, unread, span_of, lent_in, Scripted, ended as run_ended, full as run_full, strange as run_strange, made as run_made}
use Rattle.abi.specs.Turns.{Turned, full, strange, made, Going}

-- the same in other words
scripted_as : {s p out r r' o o' : Bytes} {w w' k k' m m' : ℕ} → Scripted s p out r o w k m → r ≡ r' → o ≡ o' → w ≡ w' → k ≡ k' → m ≡ m' → Scripted s p out r' o' w' k' m'
scripted_as {s} {p} {out} {r} {r'} {o} {o'} {w} {w'} {k} {k'} {m} {m'} x er eo ew ek em =
    subst (λ (y : Bytes). Scripted s p out y o' w' k' m') er
    (subst (λ (y : Bytes). Scripted s p out r y w' k' m') eo
    (subst (λ (y : ℕ). Scripted s p out r o y k' m') ew (subst (λ (y : ℕ). Scripted s p out r o w y m') ek (subst (λ (y : ℕ). Scripted s p out r o w k y) em x))))

pub going_begins : (s p out : Bytes) → Going s p out 0 0 0 p out
going_begins s p out = record {
  read = omega arith;
  written = omega arith;
  few = omega arith;
  size = refl;
  rest = refl;
  on = λ r more w k m x. scripted_as x refl refl (sym (zero-add w)) (sym (zero-add k)) (sym (zero-add m));
}

module _ {s p out q o : Bytes} {k w m : ℕ} (g : Going s p out k w m q o) where
  -- the whole script was taken
  pub going_ended : length s ≤ k → Scripted s p out q o w k m
  going_ended l =
      let e : drop k s ≡ [] = drop_of_length-le s l in
      scripted_as (g.on q (drop w out) 0 0 0 (subst (λ (y : Bytes). Scripted y q (drop w out) q (drop w out) 0 0 0) (sym e) run_ended)) refl
      (ap (λ (y : Bytes). take w o ++ y) (sym g.rest) ∙ take-append-drop w o) (add-zero w) (add-zero k) (add-zero m)

  module _ {q' ys : Bytes} {k₁ w₁ : ℕ} (t : Turned (take (length s - k) (drop k s)) q (take (length o - w) (drop w o)) k₁ w₁ q' ys) where
    turned : Turned (drop k s) q (drop w out) k₁ w₁ q' ys
    turned = subst (λ (y : Bytes). Turned y q (drop w out) k₁ w₁ q' ys) (take_rest s k) (subst (λ (y : Bytes). Turned (take (length s - k) (drop k s)) q y k₁ w₁ q' ys) (take_rest o w ∙ g.rest) t)

    -- what the output holds then
    o' : Bytes
    o' = take w o ++ (ys ++ drop (length o - w) (drop w o))

    o'_is : o' ≡ take w o ++ ys
    unfolding o'
    o'_is = rw (drop_of_length-le (drop w o) {i = length o - w} (omega (arith, length-drop w o)), append-nil ys)

    pub going_fits : w + w₁ ≤ length out
    going_fits = go turned
      where
        go : Turned (drop k s) q (drop w out) k₁ w₁ q' ys → w + w₁ ≤ length out
        go (full f ek ew eq eo) = omega (arith, g.written)
        go (strange e f ek ew eq eo) = omega (arith, g.written, length-drop w out)
        go (made a e ek ew f ran len eo) = omega (arith, g.written, length-drop w out)

    pub going_stops : k < length s → k₁ ≡ 0 → Scripted s p out q' (take w o ++ (ys ++ drop (length o - w) (drop w o))) (w + w₁) k m
    unfolding o'
    going_stops l z = go turned
      where
        go : Turned (drop k s) q (drop w out) k₁ w₁ q' ys → Scripted s p out q' o' (w + w₁) k m
        go (full f ek ew eq eo) =
            scripted_as (g.on q (drop w out) 0 0 0 (run_full f)) (sym eq) (ap (λ (y : Bytes). take w o ++ y) (sym eo) ∙ sym o'_is) (ap (λ (n : ℕ). w + n) (sym ew)) (add-zero k) (add-zero m)
        go (strange e f ek ew eq eo) =
            scripted_as (g.on q (unread ++ drop reply_size (drop w out)) reply_size 0 0 (run_strange (omega (arith, length-drop k s)) e f)) (sym eq) (ap (λ (y : Bytes). take w o ++ y) (sym eo) ∙ sym o'_is)
            (ap (λ (n : ℕ). w + n) (sym ew)) (add-zero k) (add-zero m)
        go (made a e ek ew f ran len eo) = absurd (let c : ◌≡◌ {A = ℕ} 0 1 = omega (arith, (call_inside (drop k s) e).0) in omega arith)

    pub going_on : (k₁ ≡ 0 → ⊥) → (k₁ ≤ length s - k) × Going s p out (k + k₁) (w + w₁) (m + 1) q' (take w o ++ (ys ++ drop (length o - w) (drop w o)))
    unfolding o'
    going_on z = go turned
      where
        go : Turned (drop k s) q (drop w out) k₁ w₁ q' ys → (k₁ ≤ length s - k) × Going s p out (k + k₁) (w + w₁) (m + 1) q' o'
        go (full f ek ew eq eo) = absurd (z ek)
        go (strange e f ek ew eq eo) = absurd (z ek)
        go (made a e ek ew f ran len eo) =
            let S = drop k s in
            let O = drop w out in
            let text = recorded (call_in S (lent_in S O)) (lent_in S O) a in
            let lo : length O ≡ length out - w = length-drop w out in
            let ly : length ys ≡ length O = ap length eo ∙ length-append text (drop w₁ O) ∙ omega (arith, length-drop w₁ O) in
            let lt : length (take w o) ≡ w = length-take-le w o (omega (arith, g.written, g.size)) in
            let dy : drop w₁ ys ≡ drop w₁ O = ap (drop w₁) eo ∙ drop_at text (drop w₁ O) w₁ len in
            let inside : (k₁ ≤ length s - k) = omega (arith, (call_inside S e).1, length-drop k s) in
            let taken : take (w + w₁) o' ≡ take w o ++ text =
            ap (take (w + w₁)) o'_is
            ∙ ap (λ (n : ℕ). take (n + w₁) (take w o ++ ys)) (sym lt)
            ∙ take-append-add (take w o) ys w₁
            ∙ ap (λ (y : Bytes). take w o ++ y) (ap (take w₁) eo ∙ take_at text (drop w₁ O) w₁ len) in (
              inside,
              record {
                read = omega (arith, g.read);
                written = omega (arith, g.written);
                few = omega (arith, g.few, (call_inside S e).0);
                size = ap length o'_is ∙ length-append (take w o) ys ∙ omega (arith, g.written, g.size);
                rest = ap (drop (w + w₁)) o'_is ∙ ap (λ (n : ℕ). drop (n + w₁) (take w o ++ ys)) (sym lt) ∙ drop-append-add (take w o) ys w₁ ∙ dy ∙ drop-drop w₁ w out;
                on = λ r more w' k' m' x.
                    let x₁ : Scripted (drop (call_size S) S) q' (drop (w + w₁) out) r more w' k' m' =
                    subst (λ (y : Bytes). Scripted y q' (drop (w + w₁) out) r more w' k' m') (sym (drop-drop k₁ k s) ∙ ap (λ (n : ℕ). drop n S) ek) x in
                    let x₂ : Scripted (drop (call_size S) S) q' (drop (span_of S) O) r more w' k' m' =
                    subst (λ (y : Bytes). Scripted (drop (call_size S) S) q' y r more w' k' m') (sym (drop-drop w₁ w out) ∙ ap (λ (n : ℕ). drop n O) ew) x₁ in
                    scripted_as (g.on r (text ++ more) (span_of S + w') (call_size S + k') (suc m') (run_made e (subst (λ (n : ℕ). n ≤ length O) ew f) ran (len ∙ ew) x₂)) refl
                    (sym (append_assoc (take w o) text more) ∙ ap (λ (y : Bytes). y ++ more) (sym taken)) (omega arith) (omega arith) (omega arith);
              },
            )
