use mathlib.Core.Path.{sym, ◌∙◌}
use native.Mathlib.Omega.{arith}
use Rattle.std.proofs.lemmas.Result.{err_from_is_err_and}
use Rattle.markup.proofs.Gaps.{came_end, came_off, came_on}
use Rattle.markup.proofs.comments.between.Goals as goal

pub returns-then-not-stands : goal.returns-then-not-stands
returns-then-not-stands c =
    let loop = c.loop-at in
    let e = c.gap_end-t.ensures in
    let h = sym c.stands.ensures ∙ c.if-not-stands.true in
    record { within = (omega arith, omega arith); is = came_end _ _ _ _ e.0 e.1 _ loop.invariant.1 h }

pub loop-at-preserved : goal.loop-at-preserved
loop-at-preserved c =
    let loop = c.loop-at in
    let e = c.gap_end-t.ensures in
    let h = sym c.stands.ensures ∙ c.if-not-stands.false in
    let n = came_on _ _ _ _ e.0 e.1 _ loop.invariant.1 h _ c.comment.ensures _ c.in_ok-i.was in
    ((omega (arith, n.0), n.0.1), n.1)

pub returns-in_err-i : goal.returns-in_err-i
returns-in_err-i c =
    let e = c.gap_end-t.ensures in
    let h = sym c.stands.ensures ∙ c.if-not-stands.false in
    let p = err_from_is_err_and c.from_residual.result c.from_residual.ensures.1 in
    rw (p.1, p.2) (record { within = tt; is = came_off _ _ _ _ e.0 e.1 _ c.loop-at.invariant.1 h _ c.comment.ensures _ c.in_err-i.was })
