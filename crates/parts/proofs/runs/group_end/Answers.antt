use native.Mathlib.Omega.{arith}
use Rattle.chars.proofs.FoldedNames.{text_folded, text_equivalent}
use Rattle.parts.proofs.GroupRuns.{ending_begin, ending_more, ended_stop, ended_end}
use Rattle.parts.proofs.GroupEnds.{ended_behind}
use mathlib.Core.Bool.{not}
use mathlib.Core.Path.{ap}
use Rattle.parts.proofs.runs.group_end.Goals as goal

pub loop-e-init : goal.loop-e-init
loop-e-init c = ending_begin _ _ _ _

pub folds_to-requires : goal.folds_to-requires
folds_to-requires c = text_folded _ c.args.p.now c.requires.holds_folding _ c.folded_text-w.ensures

pub returns-then-not-folds_to : goal.returns-then-not-folds_to
returns-then-not-folds_to c =
    let loop = c.loop-e in
    let alike = text_equivalent _ c.args.p.now c.requires.holds_folding _ c.folded_text-w.ensures _ _ c.folds_to.ensures in
    ended_stop _ _ _ _ _ loop.invariant c.loop-e-test.true _ c.field.ensures.2 _ alike (ap not c.if-not-folds_to.true)

pub overflow_sub-e : goal.overflow_sub-e
overflow_sub-e c = omega (arith, c.loop-e.invariant.low)

pub end_behind-requires : goal.end_behind-requires
end_behind-requires c = record { shape = (c.requires.shape, omega (arith, c.loop-e-test.true)); holds_folding = c.requires.holds_folding }

pub returns-then-e-i-eq4 : goal.returns-then-e-i-eq4
returns-then-e-i-eq4 c =
    let loop = c.loop-e in
    let alike = text_equivalent _ c.args.p.now c.requires.holds_folding _ c.folded_text-w.ensures _ _ c.folds_to.ensures in
    ended_behind _ _ _ _ _ loop.invariant c.loop-e-test.true _ c.field.ensures.2 _ alike (ap not c.if-not-folds_to.false)
    _ c.end_behind.ensures

pub loop-e-smaller : goal.loop-e-smaller
loop-e-smaller c = omega (arith, c.loop-e-test.true)

pub loop-e-preserved : goal.loop-e-preserved
loop-e-preserved c =
    let loop = c.loop-e in
    let alike = text_equivalent _ c.args.p.now c.requires.holds_folding _ c.folded_text-w.ensures _ _ c.folds_to.ensures in
    ending_more _ _ _ _ _ loop.invariant c.loop-e-test.true _ c.field.ensures.2 _ alike (ap not c.if-not-folds_to.false)

pub returns : goal.returns
returns c = ended_end _ _ _ _ _ c.loop-e.invariant c.loop-e-test.false
