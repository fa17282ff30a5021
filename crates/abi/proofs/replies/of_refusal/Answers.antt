use mathlib.Core.Path.{◌∙◌}
use Rattle.abi.proofs.Handing.{hands_refusal}
use Rattle.abi.proofs.replies.of_refusal.Goals as goal

pub returns : goal.returns
returns c = λ out. hands_refusal _ _ _ out (c.of_values.ensures ∙ rw c.number.ensures)
