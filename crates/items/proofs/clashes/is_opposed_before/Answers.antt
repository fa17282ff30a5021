use Rattle.items.proofs.Tests.{before_none, before_some}
use Rattle.items.proofs.clashes.is_opposed_before.Goals as goal

pub returns-then-r-eq0 : goal.returns-then-r-eq0
returns-then-r-eq0 c = before_none _ _ _ _ _ c.if-r-eq0.true

pub returns : goal.returns
returns c = before_some _ _ _ _ _ _ c.if-r-eq0.false c.is_opposed.ensures
