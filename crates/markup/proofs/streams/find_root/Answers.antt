use Rattle.std.proofs.Common.{arith}
use Rattle.std.proofs.lemmas.Result.{err_from_is_err_and}
use Rattle.markup.proofs.Rests.{walked_at, opens_within}
use Rattle.markup.proofs.Roots.{stream_bad, stream_none, stream_rooted}
use Rattle.markup.proofs.streams.find_root.Goals as goal

pub returns-in_err-t : goal.returns-in_err-t
returns-in_err-t c =
    let p = err_from_is_err_and c.from_residual.result c.from_residual.ensures.1 in
    rw (p.1, p.2) (stream_bad _ c.declaration_end.ensures c.between.ensures c.in_err-t.was)

pub opens-requires : goal.opens-requires
opens-requires c = (walked_at c.between.ensures c.in_ok-t.was).1

pub returns-then-not-opens : goal.returns-then-not-opens
returns-then-not-opens c = stream_none _ c.declaration_end.ensures c.between.ensures c.in_ok-t.was c.opens.ensures c.if-not-opens.true

pub overflow_add-t : goal.overflow_add-t
overflow_add-t c =
    let h = opens_within c.args.s.now c.in_ok-t.t c.opens.ensures c.if-not-opens.false in
    record { fits = omega (arith, h) }

pub root_tag-requires : goal.root_tag-requires
root_tag-requires c = opens_within _ _ c.opens.ensures c.if-not-opens.false

pub returns : goal.returns
returns c =
    stream_rooted _ c.declaration_end.ensures c.between.ensures c.in_ok-t.was c.opens.ensures
    c.if-not-opens.false c.root_tag.ensures
