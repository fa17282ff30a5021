use Rattle.abi.proofs.Handing.{replied}
use Rattle.abi.proofs.fields.opc_drop_override.Goals as goal

pub returns : goal.returns
returns c = search replied
