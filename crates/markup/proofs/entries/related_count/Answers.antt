use Prim.Native.Nat.{◌+◌}
use mathlib.Core.Path.{sym, ap}
use Rattle.markup.specs.EntryPlaces.{given_at}
use Rattle.std.specs.Prelude.{Option}
use Rattle.markup.specs.declared.entries.Value.{Value}
use Rattle.markup.proofs.entries.related_count.Goals as goal

pub returns-in-Some : goal.returns-in-Some
returns-in-Some c = ap (λ (v : Option Value). 3 + given_at v) (sym c.in-Some.is)

pub returns-in-None : goal.returns-in-None
returns-in-None c = ap (λ (v : Option Value). 3 + given_at v) (sym c.in-None.is)
