use Rattle.lines.proofs.Together.{gathers_none, gathers_fit, gathers_copied}
use Rattle.lines.proofs.gathering.gather.Goals as goal

pub returns-then-more-eq0 : goal.returns-then-more-eq0
returns-then-more-eq0 c = search gathers_none

pub slice_bounds-copy_in-end : goal.slice_bounds-copy_in-end
slice_bounds-copy_in-end c = search gathers_fit

pub returns : goal.returns
returns c = search gathers_copied
