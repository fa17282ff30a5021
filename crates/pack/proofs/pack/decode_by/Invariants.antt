use Prim.Native.Nat.{◌-◌, ◌≤◌}
use mathlib.Core.Path.{◌≡◌}
use mathlib.Core.List.{◌++◌, map}
use lib.ListN.{length, take, drop}
use Rattle.pack.specs.Pack.{package_of, decoded, slashed}
use Rattle.pack.proofs.pack.decode_by.Given as goal

abbrev pub invariant-loop-i : goal.invariant-loop-i
invariant-loop-i l = (l.o ≤ l.i) × (l.o ≤ length l.s) × (length l.out ≡ length l.initial.out) × (package_of l.s ≡ take l.o l.out ++ decoded 0 (drop l.i (map slashed l.s)))

abbrev pub decreases-loop-i : goal.decreases-loop-i
decreases-loop-i l = length l.s - l.i
