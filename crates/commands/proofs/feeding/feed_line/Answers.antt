use Rattle.commands.proofs.FedLines.{taken_length, gathered_in, step_line, step_part}
use Rattle.commands.proofs.feeding.feed_line.Goals as goal

pub returns-then-piece-at : goal.returns-then-piece-at
returns-then-piece-at c = search step_part

pub slice_bounds-run_line-end : goal.slice_bounds-run_line-end
slice_bounds-run_line-end c = search gathered_in

pub slice_bounds-run_line-end-2 : goal.slice_bounds-run_line-end-2
slice_bounds-run_line-end-2 c = search (taken_length, gathered_in)

pub returns : goal.returns
returns c = search step_line
