use mathlib.Core.Path.{refl}
use native.Mathlib.Omega.{arith}
use Rattle.pieces.proofs.MergedRows.{taken_own, taken_up_more, merged}
use Rattle.pieces.proofs.joining.merge.Goals as goal

pub loop-k-init : goal.loop-k-init
loop-k-init c = (λ l. omega arith, refl, taken_own _ _)

pub loop-k-preserved : goal.loop-k-preserved
loop-k-preserved c =
    let inv = c.loop-k.invariant in
    (λ l. omega arith, omega arith, taken_up_more _ _ _ _ _ inv.2 c.absorb.ensures)

pub returns : goal.returns
returns c = merged _ _ _ _ _ _ c.rename.ensures c.loop-k.invariant.2 (omega arith) c.loop-k.invariant.0
