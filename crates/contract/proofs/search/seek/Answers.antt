use native.Mathlib.Omega.{arith}
use Rattle.contract.proofs.RowSearch.{closing_all, closing_right, closing_left, placed_hit, placed_end}
use Rattle.contract.proofs.search.seek.Goals as goal

pub loop-lo-init : goal.loop-lo-init
loop-lo-init c = closing_all _ _ _ c.count-hi.ensures.0

pub overflow_add-mid : goal.overflow_add-mid
overflow_add-mid c = omega (arith, c.loop-lo.invariant.halved.high, c.requires.shape.few)

pub stands-at-requires : goal.stands-at-requires
stands-at-requires c = record { shape = (c.requires.shape, omega (arith, c.loop-lo.invariant.halved.high)); aimed = c.requires.aimed }

pub overflow_add-lo : goal.overflow_add-lo
overflow_add-lo c = omega (arith, c.loop-lo.invariant.halved.high, c.requires.shape.few)

pub loop-lo-preserved-in-Less : goal.loop-lo-preserved-in-Less
loop-lo-preserved-in-Less c =
    closing_right _ _ _ _ _ _ _ _ _ c.loop-lo.invariant (omega arith) (omega arith) c.smaller.ensures.1
    c.smaller.ensures.2 _ c.stands-at.ensures c.in-Less.is

pub returns-in-Equal : goal.returns-in-Equal
returns-in-Equal c =
    placed_hit _ _ _ _ _ _ _ _ _ c.loop-lo.invariant (omega arith) (omega arith) c.smaller.ensures.1
    c.smaller.ensures.2 _ c.stands-at.ensures c.in-Equal.is

pub loop-lo-preserved : goal.loop-lo-preserved
loop-lo-preserved c =
    closing_left _ _ _ _ _ _ _ _ _ c.loop-lo.invariant (omega arith) (omega arith) c.smaller.ensures.1
    c.smaller.ensures.2 _ c.stands-at.ensures c.in-Greater.is

pub returns : goal.returns
returns c = placed_end _ _ _ _ _ _ c.loop-lo.invariant c.loop-lo-test.false
