use mathlib.Core.Path.{refl}
use Rattle.contract.proofs.RowEntries.{full_few, full_counted}
use Rattle.contract.proofs.entries.is_full.Goals as goal

pub returns-then-count-limit : goal.returns-then-count-limit
returns-then-count-limit c = full_few _ _ _ _ c.count.ensures.1 c.if-count-limit.true

pub returns : goal.returns
returns c = full_counted _ _ _ _ c.row_count.ensures _ refl
