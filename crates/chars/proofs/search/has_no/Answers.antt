use mathlib.Core.Path.{ap, ◌∙◌}
use mathlib.Core.Bool.{not}
use Rattle.chars.proofs.Searches.{any_lacks}
use Rattle.chars.proofs.search.has_no.Goals as goal

pub returns : goal.returns
returns c = ap not c.contains.ensures.value ∙ any_lacks _ _
