use Rattle.names.specs.Types.{media_type}
use Rattle.names.proofs.types.is_media_type.Goals as goal

pub returns-then-n : goal.returns-then-n
unfolding media_type
returns-then-n c = rw (c.is_type_and_parameters.ensures, c.if-n.true)

pub returns : goal.returns
unfolding media_type
returns c = rw c.if-n.false
