use mathlib.Core.Path.{refl}
use Rattle.chars.specs.Classes.{classes}
use Rattle.names.proofs.table.table.Goals as goal

pub returns : goal.returns
unfolding classes
returns c = refl
