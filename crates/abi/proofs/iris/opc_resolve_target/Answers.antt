use Rattle.abi.proofs.Handing.{handed_as}
use Rattle.abi.proofs.iris.opc_resolve_target.Goals as goal

pub returns : goal.returns
returns c = handed_as c.resolve_target.ensures (c.of_written.ensures _)
