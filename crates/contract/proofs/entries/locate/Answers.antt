use Rattle.contract.proofs.RowEntries.{sought_here, sought_none}
use Rattle.contract.proofs.entries.locate.Goals as goal

pub returns-then-place : goal.returns-then-place
returns-then-place c = sought_here _ _ _ _ c.seek-place.ensures c.if-place.true

pub returns : goal.returns
returns c = sought_none _ _ _ _ c.seek-place.ensures _ c.count.ensures.0 c.if-place.false
