use mathlib.Core.Path.{refl}
use native.Mathlib.Omega.{arith}
use Rattle.parts.proofs.OutputCopies.{copying_begin, copying_more, copied_full, copied_end}
use Rattle.parts.proofs.reading.copy_content.Goals as goal

pub loop-i-init : goal.loop-i-init
loop-i-init c = (refl, copying_begin _ _ _ _ _)

pub returns-then-out-at : goal.returns-then-out-at
returns-then-out-at c = copied_full _ _ _ _ _ _ _ _ _ c.loop-i.invariant.1 c.loop-i.invariant.0 c.if-out-at.true

pub copy_rest-at-requires : goal.copy_rest-at-requires
copy_rest-at-requires c = omega (arith, c.if-out-at.false)

pub loop-i-preserved : goal.loop-i-preserved
loop-i-preserved c = (
  omega (arith, c.loop-i.invariant.0),
  copying_more _ _ _ _ _ _ _ _ _ c.loop-i.invariant.1 c.loop-i.invariant.0
      c.loop-i-test.true _ c.field-piece.ensures.2 _ _ c.copy_rest-at.ensures _ c.skip_past-skip.ensures,
)

pub returns : goal.returns
returns c = copied_end _ _ _ _ _ _ _ _ _ c.loop-i.invariant.1 c.loop-i.invariant.0 c.loop-i-test.false
