use mathlib.Core.Path.{refl, ◌∙◌}
use native.Mathlib.Omega.{arith}
use Rattle.markup.proofs.values.skip_plain.Goals as goal

pub loop-i-init : goal.loop-i-init
loop-i-init c = (omega arith, refl)

pub overflow_sub-s : goal.overflow_sub-s
overflow_sub-s c = c.loop-i.invariant.0

pub returns-then-not-are_plain : goal.returns-then-not-are_plain
returns-then-not-are_plain c = c.loop-i.invariant

pub loop-i-preserved : goal.loop-i-preserved
loop-i-preserved c = (omega arith, c.loop-i.invariant.1 ∙ c.are_plain.ensures c.if-not-are_plain.false)

pub returns : goal.returns
returns c = c.loop-i.invariant
