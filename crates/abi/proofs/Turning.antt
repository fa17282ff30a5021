-- The turns of a run: one law for each way in which one ends.
-- Assumes nothing.
use Prim.Native.Nat.{ℕ, ◌+◌, ◌-◌, ◌≤◌, ◌<◌}
use mathlib.Core.Path.{◌≡◌, refl, ap, ap₂, sym, ◌∙◌, subst}
use mathlib.Core.Bool.{true, false}
use mathlib.Core.List.{◌++◌}
use native.Mathlib.Omega.{arith}
use lib.ListN.{length, take, drop, length-append, length-drop}
use lib.Seq.{length-take-le}
use Rattle.model.specs.Sets.{Bytes}
use Rattle.model.specs.Calls.{Call, refused}
use Rattle.base.specs.Buffer.{splice}
use Rattle.script.specs.Calls.{head_size, room_of, between, coded, is_call, call_in}
use Rattle.script.specs.declared.heads.Head.{Head}
use Rattle.script.specs.Reading.{Called}
use Rattle.abi.specs.declared.replies.Reply.{Reply}
use Rattle.abi.specs.Replies.{reply_of}
use Rattle.abi.specs.Scripts.{reply_size, reply_bytes, recorded, unread, span_of, lent_in}
use Rattle.abi.specs.Turns.{Told, Turned, full, strange, made}
use Rattle.abi.proofs.Recording.{reply_length, spliced_start, recorded_is}

pub span_of_call : (s : Bytes) → is_call s ≡ true → span_of s ≡ reply_size + room_of s
unfolding span_of
span_of_call s e = rw e

pub span_of_none : (s : Bytes) → is_call s ≡ false → span_of s ≡ reply_size
unfolding span_of
span_of_none s e = rw e

module _ (s p out : Bytes) where
  -- the output has no room for the answer
  pub no_room_lem : (h : Head) → Called s h → length out < reply_size + h.room → Turned s p out 0 0 p out
  no_room_lem h k l = full (omega (arith, span_of_call s k.is, k.headed.room)) refl refl refl refl

  -- what is no call
  module _ (e : is_call s ≡ false) where
    pub no_room_for_16 : length out < reply_size → Turned s p out 0 0 p out
    no_room_for_16 l = full (omega (arith, span_of_none s e)) refl refl refl refl

    pub no_call : reply_size ≤ length out → (r : Reply) → r ≡ record { number = 16; count = 1; first = 0; second = 0; third = 0 } → (out' : Bytes) → out' ≡ splice out 0 (reply_bytes r) → Turned s p out 0 reply_size p out'
    unfolding unread
    no_call l r er out' eo =
        strange e l refl refl refl
        (eo ∙ ap (λ (x : Reply). splice out 0 (reply_bytes x)) er ∙ spliced_start out unread ∙ ap (λ (n : ℕ). unread ++ drop n out) (reply_length (reply_of (refused 16))))

  -- a call was made
  module _ (h : Head) (k : Called s h) (fits : reply_size + h.room ≤ length out) where
    lent : Bytes
    lent = between reply_size (reply_size + h.room) out

    lent_is : lent ≡ lent_in s out
    unfolding lent
    lent_is = ap (λ (n : ℕ). between reply_size (reply_size + n) out) k.headed.room

    lent_length : length lent ≡ h.room
    unfolding lent
    lent_length = length-take-le (reply_size + h.room - reply_size) (drop reply_size out) (omega (arith, length-drop reply_size out)) ∙ omega arith

    call_is : coded h.code h.number (between head_size h.a s) (between h.a h.b s) (between h.b h.c s) (between h.c h.d s) lent ≡ call_in s lent
    unfolding call_in
    call_is = cc

    pub call_made : (r : Reply) (q ys out₁ out₂ : Bytes)
        → Told (coded h.code h.number (between head_size h.a s) (between h.a h.b s) (between h.b h.c s) (between h.c h.d s) (between reply_size (reply_size + h.room) out)) p
        (between reply_size (reply_size + h.room) out) r ys q
        → length ys ≡ length (between reply_size (reply_size + h.room) out) → out₁ ≡ take reply_size out ++ (ys ++ drop (reply_size + h.room - reply_size) (drop reply_size out))
        → out₂ ≡ splice out₁ 0 (reply_bytes r) → Turned s p out h.d (reply_size + h.room) q out₂
    unfolding recorded lent
    call_made r q ys out₁ out₂ x ly e₁ e₂ =
        let t : Told (call_in s (lent_in s out)) p (lent_in s out) r ys q =
        subst (λ (l : Bytes). Told (call_in s l) p l r ys q) lent_is (subst (λ (c : Call). Told c p lent r ys q) call_is x) in
        let z : reply_bytes r ++ ys ≡ recorded (call_in s (lent_in s out)) (lent_in s out) t.answered = ap₂ (λ (a : Reply) (b : Bytes). reply_bytes a ++ b) t.reply t.is in
        let n : length (reply_bytes r ++ ys) ≡ reply_size + h.room = length-append (reply_bytes r) ys ∙ omega (arith, reply_length r, lent_length) in
        made t.answered k.is k.headed.d (ap (λ (i : ℕ). reply_size + i) k.headed.room ∙ sym (span_of_call s k.is)) fits t.ran (ap length (sym z) ∙ n)
        (recorded_is out ys out₁ out₂ (reply_size + h.room) r (omega arith) fits e₁ e₂ ∙ ap (λ (l : Bytes). l ++ drop (reply_size + h.room) out) z)
