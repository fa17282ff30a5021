use mathlib.Core.Path.{◌≡◌}
use mathlib.Core.Bool.{true}
use Prim.Native.Nat.{◌+◌}
use lib.ListN.{drop}
use Rattle.markup.specs.Marks.{quotable}
use Rattle.markup.proofs.values.are_plain.Given as goal

abbrev pub invariant-loop-k : goal.invariant-loop-k
invariant-loop-k l = l.all ≡ true → quotable (drop l.i l.s) ≡ quotable (drop (l.i + l.k) l.s)
