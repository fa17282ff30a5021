use Rattle.abi.proofs.Handing.{replied}
use Rattle.abi.proofs.fields.opc_put_relationship.Goals as goal

pub returns : goal.returns
returns c = search replied
