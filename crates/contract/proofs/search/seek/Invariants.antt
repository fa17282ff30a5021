use Prim.Native.Nat.{◌-◌}
use Rattle.contract.specs.Searches.{sought_key, Closing}
use Rattle.contract.proofs.search.seek.Given as goal

abbrev pub invariant-loop-lo : goal.invariant-loop-lo
invariant-loop-lo l = Closing l.pkg (sought_key l.w l.f l.id) l.lo l.hi l.below l.above

abbrev pub decreases-loop-lo : goal.decreases-loop-lo
decreases-loop-lo l = l.hi - l.lo
