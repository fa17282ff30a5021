use mathlib.Core.Path.{refl}
use Rattle.chars.specs.Bytes.{letter}
use Rattle.markup.proofs.names.is_letter.Goals as goal

pub returns : goal.returns
unfolding letter
returns c = refl
