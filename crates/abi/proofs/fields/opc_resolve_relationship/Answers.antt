use Rattle.abi.proofs.Handing.{replied}
use Rattle.abi.proofs.fields.opc_resolve_relationship.Goals as goal

pub returns : goal.returns
returns c = replied c.resolve_relationship.ensures (c.of_resolution.ensures _)
