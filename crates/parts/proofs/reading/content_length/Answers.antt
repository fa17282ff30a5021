use native.Mathlib.Omega.{arith}
use Rattle.parts.proofs.OutputCopies.{measuring_begin, measuring_more, measured_end}
use Rattle.parts.proofs.reading.content_length.Goals as goal

pub loop-i-init : goal.loop-i-init
loop-i-init c = measuring_begin _ _ _

pub overflow_add-n : goal.overflow_add-n
overflow_add-n c = omega (arith, c.requires, c.loop-i.invariant.few, c.loop-i-test.true, c.field.ensures.0)

pub loop-i-preserved : goal.loop-i-preserved
loop-i-preserved c = measuring_more _ _ _ _ _ c.loop-i.invariant c.loop-i-test.true _ c.field.ensures.0 c.field.ensures.2

pub returns : goal.returns
returns c = measured_end _ _ _ _ _ c.loop-i.invariant c.loop-i-test.false
