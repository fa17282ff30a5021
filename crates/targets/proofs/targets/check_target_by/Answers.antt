use mathlib.Core.Path.{◌∙◌}
use Rattle.targets.proofs.Judging.{by_number}
use Rattle.targets.proofs.targets.check_target_by.Goals as goal

pub returns-then-mode-eq0 : goal.returns-then-mode-eq0
returns-then-mode-eq0 c = c.check_target.ensures ∙ rw c.if-mode-eq0.true

pub returns : goal.returns
returns c = c.check_target-2.ensures ∙ by_number _ c.args.source.now c.args.target.now c.if-mode-eq0.false
