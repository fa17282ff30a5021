use mathlib.Core.Path.{◌∙◌}
use Rattle.chars.proofs.SameTexts.{starts_begins}
use Rattle.chars.proofs.texts.begins.Goals as goal

pub returns : goal.returns
returns c = c.starts_with.ensures.value ∙ starts_begins _ _
