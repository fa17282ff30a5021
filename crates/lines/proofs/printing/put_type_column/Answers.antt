use Rattle.output.proofs.Sending.{sent_as}
use Rattle.lines.proofs.Sends.{type_none, type_some}
use borrow.Author.Rules.{rules}
use Rattle.lines.proofs.printing.put_type_column.Goals as goal

pub returns-then-kind-eq0 : goal.returns-then-kind-eq0
returns-then-kind-eq0 c = search (sent_as, type_none, rules)

pub returns : goal.returns
returns c = search (sent_as, type_some, rules)
