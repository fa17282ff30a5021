use Rattle.markup.proofs.TagEnds.{opens_is, opens_not}
use Rattle.markup.proofs.tags.opens.Goals as goal

pub returns-then-byte_at-eq60 : goal.returns-then-byte_at-eq60
returns-then-byte_at-eq60 c =
    opens_is c.args.s.now c.args.at _ c.byte_at.ensures c.if-byte_at-eq60.true _
    c.byte_at-then-byte_at-eq60.ensures _ c.is_name_first.ensures

pub returns-else-byte_at-eq60 : goal.returns-else-byte_at-eq60
returns-else-byte_at-eq60 c = opens_not c.args.s.now c.args.at _ c.byte_at.ensures c.if-byte_at-eq60.false
