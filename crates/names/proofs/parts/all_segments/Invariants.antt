use mathlib.Core.Path.{◌≡◌}
use Prim.Native.Nat.{◌-◌, ◌≤◌}
use lib.ListN.{length, drop}
use Rattle.chars.specs.Bytes.{slash}
use Rattle.chars.specs.Lists.{split, all}
use Rattle.names.specs.Names.{segment}
use Rattle.names.proofs.parts.all_segments.Given as goal

abbrev pub invariant-loop-from : goal.invariant-loop-from
invariant-loop-from l = (l.i ≤ length l.s) × (all segment (split slash (drop l.from l.s)) ≡ all segment (split slash (drop l.i l.s)))

abbrev pub decreases-loop-from : goal.decreases-loop-from
decreases-loop-from l = length l.s - l.i
