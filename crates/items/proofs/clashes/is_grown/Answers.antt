use Rattle.items.proofs.Tests.{grown_from, grown_into, grown_no_slash, grown_no_rest, grown_into_no_slash}
use Rattle.items.proofs.clashes.is_grown.Goals as goal

pub returns-then-byte_at-eq47 : goal.returns-then-byte_at-eq47
returns-then-byte_at-eq47 c = grown_from _ _ c.requires _ c.shared_start.ensures c.if-m-n.true _ c.byte_at.ensures c.if-byte_at-eq47.true

pub returns-then-m-n : goal.returns-then-m-n
returns-then-m-n c = grown_no_slash _ _ c.if-m-n.true _ c.byte_at.ensures c.if-byte_at-eq47.false

pub returns-then-byte_at-eq47-2 : goal.returns-then-byte_at-eq47-2
returns-then-byte_at-eq47-2 c = grown_into _ _ c.requires _ c.shared_start-then-byte_at-eq47-2.ensures c.if-n-m.true _ c.byte_at-then-n-m.ensures c.if-byte_at-eq47-2.true

pub returns-else-byte_at-eq47-2 : goal.returns-else-byte_at-eq47-2
returns-else-byte_at-eq47-2 c = grown_into_no_slash _ _ c.if-n-m.true _ c.byte_at-then-n-m.ensures c.if-byte_at-eq47-2.false

pub returns-else-n-m : goal.returns-else-n-m
returns-else-n-m c =
    let args = c.args in
    grown_no_rest args.q.now args.w.now c.if-m-n.false c.if-n-m.false
