use mathlib.Core.Path.{ap, ◌∙◌}
use Rattle.base.proofs.Lists.{take_rest}
use Rattle.chars.specs.Lists.{begins}
use Rattle.markup.proofs.marks.stands.Goals as goal

pub returns : goal.returns
returns c = c.begins.ensures ∙ ap (begins _) (take_rest c.args.s.now c.args.at)
