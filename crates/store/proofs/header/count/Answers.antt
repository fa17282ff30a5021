use mathlib.Core.Path.{sym, ◌∙◌}
use Rattle.store.proofs.Headers.{rows_count}
use Rattle.store.proofs.header.count.Goals as goal

pub returns : goal.returns
returns c = (c.number.ensures.0, c.number.ensures.0 ∙ sym (rows_count _), c.number.ensures.1)
