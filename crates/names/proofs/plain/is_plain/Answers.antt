use Rattle.names.specs.PlainBytes.{plain}
use Rattle.names.proofs.plain.is_plain.Goals as goal

pub returns : goal.returns
unfolding plain
returns c = cc
