use borrow.Author.Rules.{rules}
use Rattle.lines.proofs.Sends.{sent_padded_none, sent_padded}
use Rattle.lines.proofs.printing.+put_padded.Goals as goal

pub returns-then-width-eq0-clause-sent : goal.returns-then-width-eq0-clause-sent
returns-then-width-eq0-clause-sent t c = search (sent_padded_none, rules)

pub returns-clause-sent : goal.returns-clause-sent
returns-clause-sent t c = search (sent_padded, rules)
