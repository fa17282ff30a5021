use borrow.Author.Tests.{eq-eqb}
use Rattle.worked.proofs.Returning.{example_composed, example_end}
use Rattle.worked.proofs.run_back.Goals as goal

pub returned-requires : goal.returned-requires
returned-requires c = example_composed

pub expect-requires : goal.expect-requires
expect-requires c = eq-eqb _ 108 (example_end c.returned.result _ c.returned.ensures)
