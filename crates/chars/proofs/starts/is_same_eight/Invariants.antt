use mathlib.Core.Path.{◌≡◌}
use mathlib.Core.List.{map}
use lib.ListN.{take, drop}
use Rattle.chars.specs.Lists.{same}
use Rattle.chars.proofs.starts.is_same_eight.Given as goal

abbrev pub invariant-loop-k : goal.invariant-loop-k
invariant-loop-k g l = l.same ≡ same (map g.P.Case.read (take l.k (drop l.i l.a))) (map g.Q.Case.read (take l.k (drop l.i l.b)))
