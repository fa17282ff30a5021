use mathlib.Core.Path.{refl}
use native.Mathlib.Omega.{arith}
use Rattle.parts.proofs.PartWalks.{walking_begin, walking_more, walked_stop, walked_end}
use Rattle.parts.proofs.positions.walk.Goals as goal

pub loop-row-init : goal.loop-row-init
loop-row-init c = walking_begin _ _ _

pub own_end-end-requires : goal.own_end-end-requires
own_end-end-requires c = (c.requires.0, c.loop-row-test.true)

pub makes_part-part-requires : goal.makes_part-part-requires
makes_part-part-requires c = c.own_end-end.ensures.high _ (omega (arith, c.requires.1)) c.requires.1

pub returns-then-part-passed : goal.returns-then-part-passed
returns-then-part-passed c =
    let loop = c.loop-row in
    walked_stop _ _ _ _ _ loop.invariant c.loop-row-test.true _ (λ _ _. refl) _ c.own_end-end.ensures _
    c.makes_part-part.ensures c.if-part-passed.true

pub overflow_add-passed : goal.overflow_add-passed
overflow_add-passed c = omega (arith, c.requires.1, c.loop-row.invariant.few, c.one_if-passed.ensures.1)

pub loop-row-smaller : goal.loop-row-smaller
loop-row-smaller c = omega (arith, c.own_end-end.ensures.low)

pub loop-row-preserved : goal.loop-row-preserved
loop-row-preserved c =
    let loop = c.loop-row in
    walking_more _ _ _ _ _ loop.invariant c.loop-row-test.true _ (λ _ _. refl) _ c.own_end-end.ensures _
    c.makes_part-part.ensures c.if-part-passed.false _ c.one_if-passed.ensures.0

pub returns : goal.returns
returns c = walked_end _ _ _ _ _ c.loop-row.invariant c.loop-row-test.false
