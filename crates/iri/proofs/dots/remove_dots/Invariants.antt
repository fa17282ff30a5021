use Prim.Native.Nat.{◌-◌, ◌≤◌}
use mathlib.Core.Path.{◌≡◌}
use lib.ListN.{length, drop, take}
use Rattle.iri.specs.References.{remove_dot_segments}
use Rattle.iri.proofs.DotTurns.{whole}
use Rattle.iri.proofs.dots.remove_dots.Given as goal

abbrev pub invariant-loop-i : goal.invariant-loop-i
invariant-loop-i l = (l.i ≤ length l.s) × (l.o ≤ l.i) × (length l.out ≡ length l.initial.out) × (remove_dot_segments l.s ≡ whole (drop l.i l.s) (take l.o l.out))

abbrev pub decreases-loop-i : goal.decreases-loop-i
decreases-loop-i l = length l.s - l.i
