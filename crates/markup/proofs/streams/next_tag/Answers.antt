use Rattle.std.proofs.Common.{Ok, ap, ◌∙◌, arith}
use Rattle.std.proofs.lemmas.Result.{err_from_is_err_and}
use Rattle.markup.proofs.RootPieces.{came_none, step_past, came_passed, came_tag, came_over, came_bad}
use Rattle.markup.proofs.streams.next_tag.Goals as goal

pub loop-next-init : goal.loop-next-init
loop-next-init c = came_none c.requires

pub next_step-requires : goal.next_step-requires
next_step-requires c = c.loop-next.invariant.to

pub returns-in_err-next : goal.returns-in_err-next
returns-in_err-next c =
    let p = err_from_is_err_and c.from_residual.result c.from_residual.ensures.1 in
    rw (p.1, p.2) (came_bad c.loop-next.invariant c.next_step.ensures c.in_err-next.was)

pub loop-next-smaller : goal.loop-next-smaller
loop-next-smaller c =
    let n = step_past c.loop-next.invariant c.next_step.ensures (c.in_ok-next.was ∙ ap Ok c.in-Passed.is) in
    omega (arith, n.0, n.1)

pub loop-next-preserved : goal.loop-next-preserved
loop-next-preserved c = came_passed c.loop-next.invariant c.next_step.ensures (c.in_ok-next.was ∙ ap Ok c.in-Passed.is)

pub returns-in-Unprefixed : goal.returns-in-Unprefixed
returns-in-Unprefixed c = came_tag c.loop-next.invariant c.next_step.ensures (c.in_ok-next.was ∙ ap Ok c.in-Unprefixed.is)

pub returns-in-Over : goal.returns-in-Over
returns-in-Over c = came_over c.loop-next.invariant c.next_step.ensures (c.in_ok-next.was ∙ ap Ok c.in-Over.is)
