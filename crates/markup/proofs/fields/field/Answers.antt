use Rattle.base.specs.Buffer.{part}
use Rattle.markup.proofs.fields.field.Goals as goal

pub returns : goal.returns
unfolding part
returns c = c.decode.ensures
