use Rattle.output.proofs.Sending.{sent_more}
use Rattle.streams.proofs.entry_lines.put_stretch.Goals as goal

pub returns : goal.returns
returns c = search sent_more
