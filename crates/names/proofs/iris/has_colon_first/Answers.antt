use Rattle.names.specs.Iris.{colon_first}
use Rattle.names.proofs.iris.has_colon_first.Goals as goal

pub returns : goal.returns
unfolding colon_first
returns c = rw (c.byte_at.ensures, c.first_member.ensures)
