use mathlib.Core.Path.{refl}
use native.Mathlib.Omega.{arith}
use Rattle.contract.proofs.RowSearch.{set_below, set_not_below, halved_all, halved_right, halved_left, halved_end}
use Rattle.contract.proofs.search.set_start.Goals as goal

pub loop-lo-init : goal.loop-lo-init
loop-lo-init c = halved_all _ _ _ c.count-hi.ensures.0

pub overflow_add-mid : goal.overflow_add-mid
overflow_add-mid c = omega (arith, c.loop-lo.invariant.high, c.requires)

pub overflow_add-lo : goal.overflow_add-lo
overflow_add-lo c = omega (arith, c.loop-lo.invariant.high, c.requires)

pub loop-lo-preserved-then-set_of-set : goal.loop-lo-preserved-then-set_of-set
loop-lo-preserved-then-set_of-set c =
    halved_right _ _ _ _ _ c.loop-lo.invariant (omega arith) (omega arith) _
    (λ q. set_below _ _ _ _ _ c.tag.ensures.1 c.set_of.ensures c.if-set_of-set.true q.sound) refl

pub loop-lo-preserved : goal.loop-lo-preserved
loop-lo-preserved c =
    halved_left _ _ _ _ _ c.loop-lo.invariant (omega arith) (omega arith) _
    (λ q. set_not_below _ _ _ _ _ c.tag.ensures.1 c.set_of.ensures c.if-set_of-set.false q.sound) refl

pub returns : goal.returns
returns c = halved_end _ _ _ _ c.loop-lo.invariant c.loop-lo-test.false
