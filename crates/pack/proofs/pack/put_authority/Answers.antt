use Rattle.output.proofs.Sending.{sent_more}
use Rattle.pack.proofs.pack.put_authority.Goals as goal

pub returns : goal.returns
returns c =
    let emit = c.emit-at in
    sent_more _ _ _ _ _ _ _ _ emit.ensures emit.auto.out c.put_escaped.ensures
