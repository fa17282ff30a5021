use borrow.Author.Tests.{lt-ltb, le-ltb}
use Rattle.chars.specs.Folding.{order}
use Rattle.contract.proofs.search.compare_numbers.Goals as goal

pub returns-then-x-y : goal.returns-then-x-y
unfolding order
returns-then-x-y c = rw (lt-ltb _ _ c.if-x-y.true)

pub returns-then-y-x : goal.returns-then-y-x
unfolding order
returns-then-y-x c = rw (le-ltb _ _ c.if-x-y.false, lt-ltb _ _ c.if-y-x.true)

pub returns : goal.returns
unfolding order
returns c = rw (le-ltb _ _ c.if-x-y.false, le-ltb _ _ c.if-y-x.false)
