use mathlib.Core.Path.{refl}
use Rattle.abi.proofs.calls.opc_view_item.Goals as goal

pub returns : goal.returns
returns c = rw c.of_span.ensures (record { reply = refl; viewed = c.view_place.ensures })
