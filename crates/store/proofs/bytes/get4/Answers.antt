use borrow.Author.Rules.{rules}
use Rattle.store.specs.Buffer.{num4}
use Rattle.store.proofs.bytes.get4.Goals as goal

pub returns : goal.returns
unfolding num4
returns c = search rules
