use mathlib.Core.Path.{◌∙◌}
use native.Mathlib.Omega.{arith}
use Rattle.store.proofs.SlotNumbers.{slot_num}
use Rattle.store.proofs.slots.number.Goals as goal

pub returns : goal.returns
returns c = (c.get4.ensures.0 ∙ slot_num _ _ _ (omega arith), c.get4.ensures.1)
