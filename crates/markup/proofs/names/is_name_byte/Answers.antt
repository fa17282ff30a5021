use Rattle.markup.proofs.Sets.{name_byte_is}
use Rattle.markup.proofs.names.is_name_byte.Goals as goal

pub returns : goal.returns
returns c = name_byte_is _ _ c.is_letter.ensures
