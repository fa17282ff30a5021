use native.Mathlib.Omega.{arith}
use Rattle.streams.proofs.RowSizes.{summing_begin, summing_more, summed}
use Rattle.streams.proofs.listing.run_size.Goals as goal

pub loop-i-init : goal.loop-i-init
loop-i-init c = summing_begin _ _ _

pub overflow_add-n : goal.overflow_add-n
overflow_add-n c =
    let asked = c.requires in
    omega (arith, asked.0.few, asked.1, c.loop-i.invariant.few, c.loop-i-test.true, c.row_size-n.ensures.0)

pub loop-i-preserved : goal.loop-i-preserved
loop-i-preserved c =
    let asked = c.requires in
    let size = c.row_size-n.ensures in
    summing_more _ _ _ _ _ c.loop-i.invariant c.loop-i-test.true _
    (size.1 asked.0 (omega (arith, asked.1, c.loop-i-test.true))) size.0

pub returns : goal.returns
returns c = summed _ _ _ _ _ c.loop-i.invariant c.loop-i-test.false
