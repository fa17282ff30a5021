use Rattle.commands.proofs.FedLines.{taken_length, ends_none, ends_line}
use Rattle.commands.proofs.feeding.finish.Goals as goal

pub returns-then-m-eq0 : goal.returns-then-m-eq0
returns-then-m-eq0 c = ends_none _ _ _ _ _ c.smaller-m.ensures.0 c.if-m-eq0.true

pub slice_bounds-run_line-end : goal.slice_bounds-run_line-end
slice_bounds-run_line-end c = search taken_length

pub returns : goal.returns
returns c = search ends_line
