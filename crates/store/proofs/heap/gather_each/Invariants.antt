use Prim.Native.Nat.{◌≤◌, ◌-◌}
use Rattle.store.specs.Packages.{Sound}
use Rattle.store.proofs.Gathering.{Gathering}
use Rattle.store.proofs.heap.gather_each.Given as goal

abbrev pub invariant-loop-r : goal.invariant-loop-r
invariant-loop-r l = (l.c ≤ l.e) × (Sound l.initial.pkg → Gathering l.initial.pkg l.pkg l.c)

abbrev pub decreases-loop-r : goal.decreases-loop-r
decreases-loop-r l = l.e - l.c
