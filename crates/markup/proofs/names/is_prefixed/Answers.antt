use mathlib.Core.Path.{ap}
use mathlib.Core.Bool.{not}
use Rattle.base.specs.Buffer.{part}
use Rattle.markup.proofs.names.is_prefixed.Goals as goal

pub returns : goal.returns
unfolding part
returns c = ap not c.has_no.ensures
