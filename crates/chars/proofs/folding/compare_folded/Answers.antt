use Rattle.chars.specs.Folding.{folded_order}
use Rattle.chars.proofs.folding.compare_folded.Goals as goal

pub returns : goal.returns
unfolding folded_order
returns c = c.compare_by.ensures
