use mathlib.Core.Path.{◌∙◌}
use Rattle.chars.proofs.SameTexts.{pointwise_same}
use Rattle.chars.proofs.texts.is_same.Goals as goal

pub returns : goal.returns
returns c = c.eq.ensures ∙ pointwise_same _ _
