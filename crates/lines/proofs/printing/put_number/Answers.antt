use Rattle.lines.proofs.Sends.{sent_number}
use borrow.Author.Rules.{rules}
use Rattle.lines.proofs.printing.put_number.Goals as goal

pub returns : goal.returns
returns c = search (sent_number, rules)
