use Prim.Native.Nat.{◌-◌}
use Rattle.parts.specs.Walks.{Walking}
use Rattle.parts.proofs.positions.walk.Given as goal

abbrev pub invariant-loop-row : goal.invariant-loop-row
invariant-loop-row l = Walking l.pkg l.n l.position l.row l.passed

abbrev pub decreases-loop-row : goal.decreases-loop-row
decreases-loop-row l = l.n - l.row
