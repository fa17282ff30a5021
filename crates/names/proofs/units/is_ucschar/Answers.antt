use Rattle.chars.specs.Characters.{ucschar}
use Rattle.names.proofs.units.is_ucschar.Goals as goal

pub returns : goal.returns
unfolding ucschar
returns c = cc
