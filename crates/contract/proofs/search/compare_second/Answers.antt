use borrow.Author.Tests.{ne_eqb}
use Rattle.chars.specs.Folding.{order}
use Rattle.contract.specs.Rows.{second}
use Rattle.contract.proofs.search.compare_second.Goals as goal

pub returns-then-set-eq-ITEMS : goal.returns-then-set-eq-ITEMS
unfolding second
returns-then-set-eq-ITEMS c = rw c.if-set-eq-ITEMS.true c.compare_numbers.ensures

pub returns-then-set-eq-RELATIONSHIPS : goal.returns-then-set-eq-RELATIONSHIPS
unfolding second
returns-then-set-eq-RELATIONSHIPS c = rw (ne_eqb _ _ c.if-set-eq-ITEMS.false, c.if-set-eq-RELATIONSHIPS.true) c.compare.ensures

pub returns : goal.returns
unfolding second order
returns c = rw (ne_eqb _ _ c.if-set-eq-ITEMS.false, ne_eqb _ _ c.if-set-eq-RELATIONSHIPS.false)
