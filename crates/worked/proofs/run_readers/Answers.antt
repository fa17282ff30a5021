use Rattle.contract.specs.declared.answers.Totals.{Totals}
use Rattle.worked.proofs.MoreLists.{held_in}
use mathlib.Core.Path.{ap}
use borrow.Author.Tests.{eq-eqb}
use Rattle.worked.proofs.run_readers.Goals as goal

pub expect-requires-2 : goal.expect-requires-2
expect-requires-2 c =
    let told = held_in c.in-Ok.is c.received.ensures in
    rw (
      eq-eqb _ 1 (ap (λ (t : Totals). t.items) told),
      eq-eqb _ 1 (ap (λ (t : Totals). t.parts) told),
      eq-eqb _ 42 (ap (λ (t : Totals). t.charge) told),
    )
