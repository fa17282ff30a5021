use mathlib.Core.Path.{◌∙◌}
use borrow.Author.Tests.{ne_eqb}
use Rattle.chars.proofs.FoldedNames.{folds_unlike, folds_alike}
use Rattle.chars.proofs.folded.folds_to.Goals as goal

pub returns-then-a-q : goal.returns-then-a-q
returns-then-a-q c = folds_alike _ _ _ c.if-a-q.true c.shared_start.ensures

pub returns-else-a-q : goal.returns-else-a-q
returns-else-a-q c = ne_eqb _ _ c.if-a-q.false ∙ folds_unlike _ _ c.if-a-q.false
