use Rattle.abi.proofs.Handing.{replied}
use Rattle.abi.proofs.xml.opc_write_relationships.Goals as goal

pub returns : goal.returns
returns c = replied c.write_relationships.ensures (c.of_written.ensures _)
