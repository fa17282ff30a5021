use Rattle.abi.proofs.Handing.{handed_as}
use Rattle.abi.proofs.iris.opc_resolve_pack_iri.Goals as goal

pub returns : goal.returns
returns c = handed_as c.resolve_pack.ensures (c.of_resolved.ensures _)
