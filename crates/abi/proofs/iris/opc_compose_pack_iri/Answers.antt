use Rattle.abi.proofs.Handing.{handed_as}
use Rattle.abi.proofs.iris.opc_compose_pack_iri.Goals as goal

pub returns : goal.returns
returns c = handed_as c.compose.ensures (c.of_written.ensures _)
