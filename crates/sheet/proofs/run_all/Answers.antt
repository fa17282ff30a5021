use Rattle.std.proofs.Common.{refl, ◌∙◌, arith}
use Rattle.sheet.proofs.run_all.Goals as goal

pub loop-turns-init : goal.loop-turns-init
loop-turns-init c = (refl, refl, refl, refl, c.requires)

pub run_some-requires : goal.run_some-requires
run_some-requires c =
    let loop = c.loop-turns in
    loop.invariant.4

pub overflow_sub-turns : goal.overflow_sub-turns
overflow_sub-turns c = omega (arith, c.loop-turns-test.true)

pub loop-turns-smaller : goal.loop-turns-smaller
loop-turns-smaller c = omega (arith, c.loop-turns-test.true)

pub loop-turns-preserved : goal.loop-turns-preserved
loop-turns-preserved c =
    let kept = c.run_some.auto in
    let inv = c.loop-turns.invariant in
    (kept.pkg ∙ inv.0, kept.line ∙ inv.1, kept.piece ∙ inv.2, kept.out ∙ inv.3, c.run_some.ensures)

pub shape_of-pkg-else-run_some : goal.shape_of-pkg-else-run_some
shape_of-pkg-else-run_some c = c.run_some.auto.pkg ∙ c.loop-turns.invariant.0

pub shape_of-line-else-run_some : goal.shape_of-line-else-run_some
shape_of-line-else-run_some c = c.run_some.auto.line ∙ c.loop-turns.invariant.1

pub shape_of-piece-else-run_some : goal.shape_of-piece-else-run_some
shape_of-piece-else-run_some c =
    c.run_some.auto.piece ∙
    c.loop-turns.invariant.2

pub shape_of-out-else-run_some : goal.shape_of-out-else-run_some
shape_of-out-else-run_some c =
    c.run_some.auto.out ∙
    c.loop-turns.invariant.3

pub returns-else-run_some : goal.returns-else-run_some
returns-else-run_some c =
    let run_some = c.run_some in
    run_some.ensures

pub shape_of-pkg-after-loop-turns : goal.shape_of-pkg-after-loop-turns
shape_of-pkg-after-loop-turns c = c.loop-turns.invariant.0

pub shape_of-line-after-loop-turns : goal.shape_of-line-after-loop-turns
shape_of-line-after-loop-turns c = c.loop-turns.invariant.1

pub shape_of-piece-after-loop-turns : goal.shape_of-piece-after-loop-turns
shape_of-piece-after-loop-turns c = c.loop-turns.invariant.2

pub shape_of-out-after-loop-turns : goal.shape_of-out-after-loop-turns
shape_of-out-after-loop-turns c = c.loop-turns.invariant.3

pub returns-after-loop-turns : goal.returns-after-loop-turns
returns-after-loop-turns c = c.loop-turns.invariant.4
