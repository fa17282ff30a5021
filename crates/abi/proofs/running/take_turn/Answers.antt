use Prim.Native.Nat.{ℕ}
use mathlib.Core.Path.{ap, ◌∙◌}
use mathlib.Core.List.{[], ◌∷◌}
use Rattle.output.specs.Answers.{answer}
use Rattle.abi.specs.Replies.{reply_of}
use Rattle.abi.proofs.Turning.{no_room_for_16, no_call}
use Rattle.abi.proofs.running.take_turn.Goals as goal

pub returns-then-out-lt-REPLY_SIZE : goal.returns-then-out-lt-REPLY_SIZE
returns-then-out-lt-REPLY_SIZE c = no_room_for_16 _ _ _ c.in_default.ensures c.if-out-lt-REPLY_SIZE.true

pub returns : goal.returns
returns c =
    no_call _ _ _ c.in_default.ensures c.if-out-lt-REPLY_SIZE.false _
    (c.one.ensures ∙ ap (λ (n : ℕ). reply_of (answer n (0 ∷ []) [])) c.number.ensures) _ c.put_reply.ensures
