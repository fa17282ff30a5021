use Rattle.parts.proofs.GroupRuns.{judged_none, judged_last}
use Rattle.parts.proofs.runs.makes_part.Goals as goal

pub returns-then-to-from : goal.returns-then-to-from
returns-then-to-from c = judged_none _ _ _ c.if-to-from.true

pub returns : goal.returns
returns c = judged_last _ _ _ c.if-to-from.false _ c.tag-t.ensures.1
