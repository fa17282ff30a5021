use mathlib.Core.List.{[]}
use Rattle.contract.proofs.ItemRows.{item_count}
use Rattle.contract.proofs.search.item_count.Goals as goal

pub returns : goal.returns
returns c = record { low = c.set_start.ensures.within; is = λ T h. item_count _ T h [] _ c.set_start.ensures }
