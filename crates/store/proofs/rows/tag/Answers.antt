use Rattle.store.proofs.Reading.{read_tag}
use Rattle.store.proofs.rows.tag.Goals as goal

pub returns : goal.returns
returns c = (c.number.ensures.1, (λ sh h. read_tag _ _ _ c.number.ensures.0))
