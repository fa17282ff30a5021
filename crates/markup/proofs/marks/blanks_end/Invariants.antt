use mathlib.Core.Path.{◌≡◌}
use Prim.Native.Nat.{◌+◌}
use lib.ListN.{drop}
use Rattle.chars.specs.Lists.{first_not}
use Rattle.markup.specs.Marks.{blank}
use Rattle.markup.specs.Walks.{Reached}
use Rattle.markup.proofs.marks.blanks_end.Given as goal

abbrev pub invariant-loop-i : goal.invariant-loop-i
invariant-loop-i l = Reached l.s l.at l.i × (l.at + first_not blank (drop l.at l.s) ≡ l.i + first_not blank (drop l.i l.s))
