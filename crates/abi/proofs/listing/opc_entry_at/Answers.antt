use Rattle.abi.proofs.Handing.{entry_replied}
use Rattle.abi.proofs.listing.opc_entry_at.Goals as goal

pub returns : goal.returns
returns c = entry_replied c.entry_at.ensures (c.of_entry_field.ensures _)
