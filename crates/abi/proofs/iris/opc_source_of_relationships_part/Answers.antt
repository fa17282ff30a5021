use Rattle.abi.proofs.Handing.{handed_as}
use Rattle.abi.proofs.iris.opc_source_of_relationships_part.Goals as goal

pub returns : goal.returns
returns c = handed_as c.source_of.ensures (c.of_written.ensures _)
