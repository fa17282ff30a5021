use mathlib.Core.Path.{refl, ◌∙◌}
use native.Mathlib.Omega.{arith}
use Rattle.output.proofs.Answering.{refused_on}
use Rattle.model.proofs.EntryCounts.{types_saying}
use Rattle.reading.proofs.EnteredPlaces.{entered_at, entered_all}
use Rattle.reading.proofs.JudgingTurns.{none_judged, shadow_shape, next_fits, next_taken, next_refused, all_judged}
use Rattle.reading.proofs.typed.check_in_order.Goals as goal

pub left_in-defaults-requires : goal.left_in-defaults-requires
left_in-defaults-requires c = (c.requires.shape.0, omega arith)

pub left_in-overrides-requires : goal.left_in-overrides-requires
left_in-overrides-requires c = (c.requires.shape.0, omega arith)

pub free-room-requires : goal.free-room-requires
free-room-requires c = c.requires.shape.0

pub loop-at-init : goal.loop-at-init
loop-at-init c = (none_judged _ c.requires.shape.1 c.free-room.ensures, refl)

pub judge_typed-requires : goal.judge_typed-requires
judge_typed-requires c =
    let given = c.requires in
    let e = entered_at types_saying given.placed _ c.loop-at-test.true in
    record { shape = (given.shape.0, shadow_shape c.loop-at.invariant.0, e.within); left_in = (c.left_in-defaults.ensures, c.left_in-overrides.ensures) }

pub overflow_sub-room : goal.overflow_sub-room
overflow_sub-room c =
    let given = c.requires in
    let e = entered_at types_saying given.placed _ c.loop-at-test.true in
    next_fits c.loop-at.invariant.0 e.next e.is c.in_ok-room.ensures

pub returns-in_err-room : goal.returns-in_err-room
returns-in_err-room c =
    let given = c.requires in
    let e = entered_at types_saying given.placed _ c.loop-at-test.true in
    rw (refused_on _ _ c.from_residual.ensures.1) (next_refused c.loop-at.invariant.0 e.next e.is c.in_err-room.ensures)

pub loop-at-preserved : goal.loop-at-preserved
loop-at-preserved c =
    let given = c.requires in
    let e = entered_at types_saying given.placed _ c.loop-at-test.true in
    let so = c.loop-at.invariant in
    (next_taken so.0 e.next e.is c.in_ok-room.ensures, c.judge_typed.auto.shadow ∙ so.1)

pub shape_of-shadow : goal.shape_of-shadow
shape_of-shadow c = c.loop-at.invariant.1

pub returns : goal.returns
returns c =
    let given = c.requires in
    all_judged c.loop-at.invariant.0
    (entered_all types_saying given.placed _ c.loop-at-test.false)
