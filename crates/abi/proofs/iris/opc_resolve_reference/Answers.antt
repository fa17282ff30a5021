use Rattle.abi.proofs.Handing.{handed_as}
use Rattle.abi.proofs.iris.opc_resolve_reference.Goals as goal

pub returns : goal.returns
returns c = handed_as c.resolve_reference.ensures (c.of_written.ensures _)
