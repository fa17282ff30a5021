use Rattle.chars.specs.Characters.{char3}
use Rattle.names.proofs.units.is_char3.Goals as goal

pub returns : goal.returns
unfolding char3
returns c = cc
