use mathlib.Core.Path.{◌≡◌}
use Prim.Native.Nat.{◌+◌, ◌≤◌, max}
use lib.ListN.{length, drop}
use Rattle.chars.specs.Lists.{index_of}
use Rattle.chars.proofs.search.find.Given as goal

abbrev pub invariant-loop-i : goal.invariant-loop-i
invariant-loop-i l =
    (l.i ≤ max l.start (length l.s)) × (l.from + index_of l.b (drop l.from l.s) ≡ l.i + index_of l.b (drop l.i l.s))
