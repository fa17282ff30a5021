use Rattle.parts.proofs.GroupRuns.{part_of}
use Rattle.parts.proofs.runs.is_part.Goals as goal

pub returns : goal.returns
returns c = part_of _ _ _ _ c.find_group-group.ensures _ c.makes_part.ensures
