use mathlib.Core.Path.{◌≡◌}
use Prim.Native.Nat.{◌≤◌, ◌-◌}
use lib.ListN.{length, drop}
use Rattle.chars.specs.Characters.{unit}
use Rattle.chars.specs.Lists.{tiled}
use Rattle.names.proofs.units.all_units.Given as goal

abbrev pub invariant-loop-i : goal.invariant-loop-i
invariant-loop-i l = (l.i ≤ length l.s) × (tiled (unit l.g) 0 l.s ≡ tiled (unit l.g) 0 (drop l.i l.s))

abbrev pub decreases-loop-i : goal.decreases-loop-i
decreases-loop-i l = length l.s - l.i
