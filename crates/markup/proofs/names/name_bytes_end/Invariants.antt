use mathlib.Core.Path.{◌≡◌}
use Prim.Native.Nat.{◌+◌}
use lib.ListN.{drop}
use Rattle.chars.specs.Bytes.{member}
use Rattle.chars.specs.Lists.{first_not}
use Rattle.chars.specs.declared.search.Alphabet.TheVariants.{Id}
use Rattle.markup.specs.Walks.{Reached}
use Rattle.markup.proofs.names.name_bytes_end.Given as goal

abbrev pub invariant-loop-i : goal.invariant-loop-i
invariant-loop-i l = Reached l.s l.at l.i × (l.at + first_not (member Id) (drop l.at l.s) ≡ l.i + first_not (member Id) (drop l.i l.s))
