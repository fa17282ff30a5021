use Rattle.abi.proofs.Handing.{replied}
use Rattle.abi.proofs.fields.opc_drop_default.Goals as goal

pub returns : goal.returns
returns c = search replied
