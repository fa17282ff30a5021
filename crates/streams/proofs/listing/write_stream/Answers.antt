use Rattle.streams.proofs.StreamAnswers.{answered_foreign, answered_short, answered_bytes}
use Rattle.streams.proofs.listing.write_stream.Goals as goal

pub returns-then-used-run_size : goal.returns-then-used-run_size
returns-then-used-run_size c = search answered_foreign

pub returns-then-out-need : goal.returns-then-out-need
returns-then-out-need c = search answered_short

pub returns : goal.returns
returns c = search answered_bytes
