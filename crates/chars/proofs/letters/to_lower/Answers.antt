use mathlib.Core.Path.{◌∙◌}
use Rattle.chars.proofs.Lowering.{ascii_lower}
use Rattle.chars.proofs.letters.to_lower.Goals as goal

pub returns : goal.returns
returns c = c.to_ascii_lowercase.ensures.value ∙ ascii_lower _
