use Rattle.pack.specs.Pack.{part_or_root}
use Rattle.pack.proofs.pack.is_part_or_root.Goals as goal

pub returns : goal.returns
unfolding part_or_root
returns c = rw (c.is_root.ensures, c.is_part_name.ensures)
