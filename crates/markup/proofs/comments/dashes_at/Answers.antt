use mathlib.Core.Path.{refl, sym, ◌∙◌}
use native.Mathlib.Omega.{arith}
use Rattle.markup.proofs.Rests.{index_within}
use Rattle.markup.proofs.Dashes.{dashes_none, dashes_here, dashes_past}
use Rattle.markup.proofs.comments.dashes_at.Goals as goal

pub loop-at-init : goal.loop-at-init
loop-at-init c = ((omega arith, omega arith), refl)

pub returns-then-s-d : goal.returns-then-s-d
returns-then-s-d c =
    let loop = c.loop-at in
    ((omega arith, omega arith), dashes_none _ _ _ c.find-d.ensures loop.invariant.0.1 c.if-s-d.true ∙ sym loop.invariant.1)

pub returns-then-byte_at-eq45 : goal.returns-then-byte_at-eq45
returns-then-byte_at-eq45 c =
    let loop = c.loop-at in
    let l = index_within _ _ _ _ loop.invariant.0.1 c.find-d.ensures in (
      omega (arith, l),
      dashes_here _ _ _ c.find-d.ensures (omega arith) _ c.byte_at.ensures c.if-byte_at-eq45.true ∙ sym loop.invariant.1,
    )

pub loop-at-smaller : goal.loop-at-smaller
loop-at-smaller c = omega (arith, index_within _ _ _ _ c.loop-at.invariant.0.1 c.find-d.ensures)

pub loop-at-preserved : goal.loop-at-preserved
loop-at-preserved c =
    let loop = c.loop-at in
    let l = index_within _ _ _ _ loop.invariant.0.1 c.find-d.ensures in (
      omega (arith, l),
      loop.invariant.1 ∙ dashes_past _ _ _ c.find-d.ensures (omega arith) _ c.byte_at.ensures c.if-byte_at-eq45.false,
    )
