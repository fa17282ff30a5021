use native.Mathlib.Omega.{arith}
use Rattle.commands.proofs.PartLines.{group_none, group_sent}
use mathlib.Core.Bool.{not}
use mathlib.Core.Path.{ap}
use Rattle.commands.proofs.listing.put_group.Goals as goal

pub returns-then-not-makes_part : goal.returns-then-not-makes_part
returns-then-not-makes_part c = group_none _ _ _ _ c.makes_part.ensures _ _ (ap not c.if-not-makes_part.true)

pub overflow_add-result : goal.overflow_add-result
overflow_add-result c = omega (arith, c.requires.from_lt_to.2, c.put_part.ensures.few)

pub returns : goal.returns
returns c = search group_sent
