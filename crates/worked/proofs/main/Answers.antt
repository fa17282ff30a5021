use Rattle.contract.specs.declared.answers.Totals.{Totals}
use Rattle.worked.proofs.MoreLists.{held_in}
use mathlib.Core.Path.{ap}
use lib.ListN.{length}
use borrow.Author.Tests.{eq-eqb}
use borrow.Author.Rules.{rules}
use Rattle.worked.proofs.main.Goals as goal

pub expect-requires-2 : goal.expect-requires-2
expect-requires-2 c = eq-eqb c.in-Ok.n 5 (cc (c.in-Ok.is, c.worked.ensures))

pub returns-in_default-recut : goal.returns-in_default-recut
returns-in_default-recut c = search
    rules

pub expect-requires-3 : goal.expect-requires-3
expect-requires-3 c = eq-eqb c.in-Ok-recut.m 3 (cc (c.in-Ok-recut.is, c.recut.ensures))

pub expect-requires-4 : goal.expect-requires-4
expect-requires-4 c =
    let told = held_in c.in-Ok-counted.is c.counted.ensures in
    rw (
      eq-eqb _ 1 (ap (λ (t : Totals). t.items) told),
      eq-eqb _ 1 (ap (λ (t : Totals). t.parts) told),
      eq-eqb _ 11 (ap (λ (t : Totals). t.charge) told),
    )

pub expect-requires-5 : goal.expect-requires-5
expect-requires-5 c = eq-eqb _ 5 (ap length c.viewed.ensures)
