use mathlib.Core.Path.{◌≡◌}
use Prim.Native.Nat.{min}
use lib.ListN.{take}
use Rattle.base.specs.Buffer.{splice, part}
use Rattle.base.proofs.moves.move_down.Given as goal

abbrev pub invariant-loop-i : goal.invariant-loop-i
invariant-loop-i l = l.pkg ≡ splice l.initial.pkg l.to (take (min l.i l.count) (part l.from l.count l.initial.pkg))
