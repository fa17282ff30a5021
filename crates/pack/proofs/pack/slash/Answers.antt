use borrow.Author.Tests.{ne_eqb}
use Rattle.pack.specs.Pack.{slashed}
use Rattle.pack.proofs.pack.slash.Goals as goal

pub returns-then-b-eq44 : goal.returns-then-b-eq44
unfolding slashed
returns-then-b-eq44 c = rw c.if-b-eq44.true

pub returns : goal.returns
unfolding slashed
returns c = rw (ne_eqb _ _ c.if-b-eq44.false)
