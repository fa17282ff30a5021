use Rattle.abi.proofs.Handing.{replied}
use Rattle.abi.proofs.calls.opc_start.Goals as goal

pub returns : goal.returns
returns c = search replied
