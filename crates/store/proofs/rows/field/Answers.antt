use Rattle.store.proofs.Reading.{field_at}
use Rattle.store.proofs.rows.field.Goals as goal

pub returns : goal.returns
returns c = field_at _ _ _ _ _ c.field_place-s.ensures
