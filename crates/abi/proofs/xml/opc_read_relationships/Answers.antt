use Rattle.abi.proofs.Handing.{replied}
use Rattle.abi.proofs.xml.opc_read_relationships.Goals as goal

pub returns : goal.returns
returns c = search replied
