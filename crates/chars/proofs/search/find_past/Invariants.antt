use mathlib.Core.Path.{◌≡◌}
use Prim.Native.Nat.{◌≤◌}
use lib.ListN.{length, take}
use Rattle.chars.specs.Lists.{after_last}
use Rattle.chars.proofs.search.find_past.Given as goal

abbrev pub invariant-loop-i : goal.invariant-loop-i
invariant-loop-i l = (l.i ≤ length l.s) × (after_last l.b l.s ≡ after_last l.b (take l.i l.s))
