use mathlib.Core.Path.{◌≡◌}
use Prim.Native.Nat.{◌≤◌}
use lib.ListN.{length, drop}
use Rattle.names.specs.Reading.{read_number}
use Rattle.names.proofs.items.read_number.Given as goal

abbrev pub invariant-loop-i : goal.invariant-loop-i
invariant-loop-i l = (l.i ≤ length l.s) × (l.v ≤ 9999) × (read_number 0 l.s ≡ read_number l.v (drop l.i l.s))
