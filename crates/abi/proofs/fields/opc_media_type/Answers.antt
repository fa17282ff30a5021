use Rattle.abi.proofs.Handing.{replied}
use Rattle.abi.proofs.fields.opc_media_type.Goals as goal

pub returns : goal.returns
returns c = replied c.media_type.ensures (c.of_written.ensures _)
