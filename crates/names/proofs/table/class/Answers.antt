use Rattle.chars.proofs.Classes.{classed}
use borrow.Author.Rules.{rules}
use Rattle.names.proofs.table.class.Goals as goal

pub returns : goal.returns
returns c = rw c.requires (classed c.args.b (search rules))
