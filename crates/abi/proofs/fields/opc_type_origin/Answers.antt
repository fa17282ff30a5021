use Rattle.abi.proofs.Handing.{replied}
use Rattle.abi.proofs.fields.opc_type_origin.Goals as goal

pub returns : goal.returns
returns c = replied c.type_origin.ensures (c.of_type_origin.ensures _)
