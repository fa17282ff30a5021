use Rattle.markup.proofs.Sets.{name_first_is}
use Rattle.markup.proofs.names.is_name_first.Goals as goal

pub returns : goal.returns
returns c = name_first_is _ _ c.is_letter.ensures
