use Rattle.output.proofs.Sending.{sent_more}
use Rattle.lines.proofs.printing.put_answer.Goals as goal

pub returns : goal.returns
returns c = search sent_more
