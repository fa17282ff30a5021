use native.Mathlib.Omega.{arith}
use Rattle.store.proofs.Lowering.{lower_more}
use Rattle.store.proofs.ends.lower_above.Goals as goal

pub loop-i-preserved : goal.loop-i-preserved
loop-i-preserved c =
    lower_more _ _ _ _ _ _ _ _ c.loop-i.invariant (omega arith) (omega arith) c.offset-o.ensures.0 c.offset-o.ensures.1
    c.requires.2 c.lowered.ensures c.put4.ensures
