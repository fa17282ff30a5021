use Rattle.output.proofs.Sending.{sent_as}
use Rattle.streams.proofs.LineTexts.{mode_external, mode_internal}
use Rattle.streams.proofs.entry_lines.put_mode.Goals as goal

pub returns-then-tag-eq-EXTERNAL_TAG : goal.returns-then-tag-eq-EXTERNAL_TAG
returns-then-tag-eq-EXTERNAL_TAG c = search (sent_as, mode_external)

pub returns : goal.returns
returns c = search (sent_as, mode_internal)
