use mathlib.Core.Path.{refl}
use mathlib.Core.Logic.{inr}
use Rattle.store.proofs.Carrying.{carry_is}
use Rattle.store.proofs.runs.carry.Goals as goal

pub returns : goal.returns
returns c = record { is = inr (refl, carry_is _ _ _ _ _ c.shift.ensures) }
