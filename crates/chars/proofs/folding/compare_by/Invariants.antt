use mathlib.Core.Path.{◌≡◌}
use mathlib.Core.List.{map}
use Prim.Native.Nat.{◌≤◌}
use lib.ListN.{length, drop}
use Rattle.chars.specs.Folding.{order}
use Rattle.chars.proofs.folding.compare_by.Given as goal

abbrev pub invariant-loop-i : goal.invariant-loop-i
invariant-loop-i g l =
    (l.i ≤ length l.a) × (l.i ≤ length l.b)
    × (order (map g.C.Case.read l.a) (map g.C.Case.read l.b) ≡ order (map g.C.Case.read (drop l.i l.a)) (map g.C.Case.read (drop l.i l.b)))
