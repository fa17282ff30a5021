use Rattle.abi.proofs.Handing.{replied}
use Rattle.abi.proofs.calls.opc_part_at.Goals as goal

pub returns : goal.returns
returns c = replied c.part_at.ensures (c.of_written.ensures _)
