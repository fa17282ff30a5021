use Rattle.chars.specs.Characters.{char4}
use Rattle.names.proofs.units.is_char4.Goals as goal

pub returns : goal.returns
unfolding char4
returns c = cc
