use Rattle.markup.proofs.Sets.{blank_is}
use Rattle.markup.proofs.marks.is_blank.Goals as goal

pub returns : goal.returns
returns c = blank_is c.args.b
