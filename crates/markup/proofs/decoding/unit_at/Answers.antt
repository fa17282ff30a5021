use Rattle.markup.proofs.Decodings.{byte_marked, byte_plain}
use Rattle.markup.proofs.decoding.unit_at.Goals as goal

pub returns-then-b-eq38 : goal.returns-then-b-eq38
returns-then-b-eq38 c = rw c.unwrap_or.ensures (byte_marked c.args.s.now c.args.i c.requires c.if-b-eq38.true c.entity_at.result c.entity_at.ensures)

pub returns : goal.returns
returns c = byte_plain _ _ c.requires c.if-b-eq38.false
