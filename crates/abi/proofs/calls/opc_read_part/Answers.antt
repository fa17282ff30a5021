use Rattle.abi.proofs.Handing.{replied}
use Rattle.abi.proofs.calls.opc_read_part.Goals as goal

pub returns : goal.returns
returns c = replied c.read_part.ensures (c.of_written.ensures _)
