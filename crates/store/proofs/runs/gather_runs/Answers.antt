use mathlib.Core.Path.{refl}
use native.Mathlib.Omega.{arith}
use Rattle.store.proofs.Taking.{run_none, row_behind, row_inside, run_more, run_all}
use Rattle.store.proofs.runs.gather_runs.Goals as goal

pub loop-x-init : goal.loop-x-init
loop-x-init c = run_none _ _ _ _

pub returns-then-o-a : goal.returns-then-o-a
returns-then-o-a c so =
    let pre = c.requires in
    let taken = c.loop-x-test.true in
    let h = row_behind _ _ _ _ _ _ _ _ _ c.loop-x.invariant pre.order.1 pre.order.0 pre.shape.1 pre.shape.2 taken _ _ _
    refl c.offset-o.ensures.0 c.size-k.ensures.0 so in
    absurd (omega (arith, c.if-o-a.true))

pub returns-then-e-o : goal.returns-then-e-o
returns-then-e-o c so =
    let pre = c.requires in
    let taken = c.loop-x-test.true in
    let h = row_inside _ _ _ _ _ _ _ _ _ c.loop-x.invariant pre.order.1 pre.order.0 pre.shape.1 pre.shape.2 taken _ _ _
    refl c.offset-o.ensures.0 c.size-k.ensures.0 so in
    absurd (omega (arith, c.if-e-o.true))

pub loop-x-preserved : goal.loop-x-preserved
loop-x-preserved c =
    let pre = c.requires in
    let taken = c.loop-x-test.true in
    run_more _ _ _ _ _ _ _ _ _ c.loop-x.invariant pre.order.1 pre.order.0 pre.shape.1 pre.shape.2 taken _ _ _
    refl c.offset-o.ensures.0 c.size-k.ensures.0 _ _ _ c.carry-left.ensures
    c.put4.ensures (omega arith) c.if-o-a.false c.if-e-o.false

pub returns : goal.returns
returns c so =
    let pre = c.requires in
    run_all _ _ _ _ _ _ _ _ _ _ _ c.loop-x.invariant pre.order.1 pre.order.0 pre.shape.1 pre.shape.2
    c.loop-x-test.false c.shift.ensures c.put4-2.ensures so
