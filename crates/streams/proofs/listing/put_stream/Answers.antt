use Rattle.streams.proofs.StreamAnswers.{streamed}
use Rattle.streams.proofs.listing.put_stream.Goals as goal

pub returns : goal.returns
returns c =
    let emit = c.emit-a in
    streamed _ _ _ _ _ _ _ _ _ _ _ _ _ _ emit.auto.out c.emit-b.auto.out c.put_lines-c.auto.out
    emit.ensures c.emit-b.ensures c.put_lines-c.ensures c.emit.ensures
