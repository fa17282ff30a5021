use Rattle.abi.proofs.Handing.{replied}
use Rattle.abi.proofs.calls.opc_join_part.Goals as goal

pub returns : goal.returns
returns c = search replied
