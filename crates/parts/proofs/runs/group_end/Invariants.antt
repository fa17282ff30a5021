use Prim.Native.Nat.{◌-◌}
use Rattle.parts.specs.Runs.{Ending}
use Rattle.parts.proofs.runs.group_end.Given as goal

abbrev pub invariant-loop-e : goal.invariant-loop-e
invariant-loop-e l = Ending l.pkg l.i l.n l.p l.e

abbrev pub decreases-loop-e : goal.decreases-loop-e
decreases-loop-e l = l.n - l.e
