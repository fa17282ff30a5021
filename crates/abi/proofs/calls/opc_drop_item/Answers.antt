use Rattle.abi.proofs.Handing.{replied}
use Rattle.abi.proofs.calls.opc_drop_item.Goals as goal

pub returns : goal.returns
returns c = search replied
