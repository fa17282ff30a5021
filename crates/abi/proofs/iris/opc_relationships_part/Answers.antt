use Rattle.abi.proofs.Handing.{handed_as}
use Rattle.abi.proofs.iris.opc_relationships_part.Goals as goal

pub returns : goal.returns
returns c = handed_as c.relationships_part.ensures (c.of_written.ensures _)
