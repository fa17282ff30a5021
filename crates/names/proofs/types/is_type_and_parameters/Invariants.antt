use mathlib.Core.Path.{◌≡◌}
use Prim.Native.Nat.{◌-◌, ◌≤◌}
use lib.ListN.{length, drop}
use Rattle.chars.specs.Bytes.{semicolon}
use Rattle.chars.specs.Lists.{split}
use Rattle.names.specs.Types.{type_and_parameters}
use Rattle.names.specs.Reading.{Parts}
use Rattle.names.proofs.Media.{headed}
use Rattle.names.proofs.types.is_type_and_parameters.Given as goal

abbrev pub invariant-loop-e : goal.invariant-loop-e
invariant-loop-e l = (l.i ≤ length l.s) × (type_and_parameters (split semicolon l.s) ≡ headed l.b (split semicolon (drop l.i l.s))) × Parts l.b

abbrev pub decreases-loop-e : goal.decreases-loop-e
decreases-loop-e l = length l.s - l.i
