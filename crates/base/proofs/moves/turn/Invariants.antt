use mathlib.Core.Path.{◌≡◌}
use Prim.Native.Nat.{min}
use Rattle.base.specs.Buffer.{splice}
use Rattle.base.proofs.Turns.{turned}
use Rattle.base.proofs.moves.turn.Given as goal

abbrev pub invariant-loop-i : goal.invariant-loop-i
invariant-loop-i l = l.pkg ≡ splice l.initial.pkg l.a (turned l.a l.n (min l.i l.k) l.initial.pkg)
