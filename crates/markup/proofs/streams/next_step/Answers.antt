use Rattle.std.proofs.Common.{arith}
use Rattle.std.proofs.lemmas.Result.{err_from_is_err_and}
use Rattle.markup.proofs.Rests.{walked_at, opens_within}
use Rattle.markup.proofs.RootPieces.{next_bad, next_over, next_passed, next_plain}
use Rattle.markup.proofs.streams.next_step.Goals as goal

pub returns-in_err-t : goal.returns-in_err-t
returns-in_err-t c =
    let p = err_from_is_err_and c.from_residual.result c.from_residual.ensures.1 in
    rw (p.1, p.2) (next_bad c.between.ensures c.in_err-t.was)

pub opens-requires : goal.opens-requires
opens-requires c = (walked_at c.between.ensures c.in_ok-t.was).1

pub returns-then-not-opens : goal.returns-then-not-opens
returns-then-not-opens c = next_over c.between.ensures c.in_ok-t.was c.opens.ensures c.if-not-opens.true

pub overflow_add-t : goal.overflow_add-t
overflow_add-t c =
    let h = opens_within c.args.s.now c.in_ok-t.t c.opens.ensures c.if-not-opens.false in
    record { fits = omega (arith, h) }

pub overflow_add-t-2 : goal.overflow_add-t-2
overflow_add-t-2 c =
    let h = opens_within c.args.s.now c.in_ok-t.t c.opens.ensures c.if-not-opens.false in
    record { fits = omega (arith, h) }

pub name_end-requires : goal.name_end-requires
name_end-requires c = opens_within _ _ c.opens.ensures c.if-not-opens.false

pub returns-then-is_prefixed : goal.returns-then-is_prefixed
returns-then-is_prefixed c =
    next_passed c.between.ensures c.in_ok-t.was c.opens.ensures c.if-not-opens.false
    c.name_end.ensures.1 c.is_prefixed.ensures c.if-is_prefixed.true c.passed_over.ensures

pub returns : goal.returns
returns c =
    next_plain c.between.ensures c.in_ok-t.was c.opens.ensures c.if-not-opens.false
    c.name_end.ensures.1 c.is_prefixed.ensures c.if-is_prefixed.false
