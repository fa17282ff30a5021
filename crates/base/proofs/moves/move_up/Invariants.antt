use mathlib.Core.Path.{◌≡◌}
use Prim.Native.Nat.{◌+◌, ◌*◌, min}
use lib.ListN.{drop}
use Rattle.base.specs.Buffer.{splice, part}
use Rattle.base.proofs.moves.move_up.Given as goal

abbrev pub invariant-loop-b : goal.invariant-loop-b
invariant-loop-b l = l.pkg ≡ splice l.initial.pkg (l.to + min (4096 * l.b) l.count) (drop (min (4096 * l.b) l.count) (part l.from l.count l.initial.pkg))
