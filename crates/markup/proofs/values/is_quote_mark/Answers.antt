use Rattle.markup.proofs.Sets.{quote_mark_is}
use Rattle.markup.proofs.values.is_quote_mark.Goals as goal

pub returns : goal.returns
returns c = quote_mark_is c.args.b
