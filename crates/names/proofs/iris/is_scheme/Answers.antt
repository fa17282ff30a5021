use Rattle.names.specs.Iris.{scheme}
use Rattle.names.proofs.iris.is_scheme.Goals as goal

pub returns : goal.returns
unfolding scheme
returns c = rw (c.all_members.ensures, c.is_letter.ensures, c.byte_at.ensures)
