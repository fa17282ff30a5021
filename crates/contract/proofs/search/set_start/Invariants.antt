use mathlib.Core.List.{[]}
use Prim.Native.Nat.{◌-◌}
use Rattle.contract.specs.Rows.{key_in}
use Rattle.contract.specs.Searches.{Halved}
use Rattle.contract.proofs.search.set_start.Given as goal

abbrev pub invariant-loop-lo : goal.invariant-loop-lo
invariant-loop-lo l = Halved l.pkg (key_in l.set [] 0 []) l.lo l.hi

abbrev pub decreases-loop-lo : goal.decreases-loop-lo
decreases-loop-lo l = l.hi - l.lo
