use Rattle.chars.specs.Characters.{char2}
use Rattle.names.proofs.units.is_char2.Goals as goal

pub returns : goal.returns
unfolding char2
returns c = cc
