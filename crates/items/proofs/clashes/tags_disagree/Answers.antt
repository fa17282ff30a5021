use mathlib.Core.Path.{refl}
use Rattle.items.specs.Clashes.{tags_disagree}
use Rattle.items.proofs.clashes.tags_disagree.Goals as goal

pub returns : goal.returns
unfolding tags_disagree
returns c = refl
