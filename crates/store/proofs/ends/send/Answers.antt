use Rattle.store.proofs.Sending.{sent_copy, sent_turn}
use Rattle.store.proofs.ends.send.Goals as goal

pub returns-then-e-k : goal.returns-then-e-k
returns-then-e-k c =
    sent_copy _ _ _ _ _ _ c.requires.0 c.requires.1 c.requires.2 c.requires.3 _ _ _ c.heap_size.ensures c.if-e-k.true
    c.shift.ensures c.put4.ensures

pub returns : goal.returns
returns c = sent_turn _ _ _ _ _ _ c.requires.0 c.requires.1 c.requires.2 c.requires.3 _ _ c.turn.ensures c.lower_above.ensures
