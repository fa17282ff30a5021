use mathlib.Core.Path.{sym, ◌∙◌}
use native.Mathlib.Omega.{arith, min_cases}
use Rattle.names.proofs.PlainBytes.{plain_none, plain_more}
use Rattle.names.proofs.plain.plain_start.Goals as goal

pub returns-then-n-lt8 : goal.returns-then-n-lt8
returns-then-n-lt8 c = plain_none

pub loop-i-init : goal.loop-i-init
loop-i-init c = (omega arith, plain_none)

pub loop-i-preserved : goal.loop-i-preserved
loop-i-preserved c = (omega arith, plain_more _ _ _ (omega (arith, min_cases, c.min-at.ensures)) c.loop-i.invariant.1 (sym c.is_plain_eight.ensures ∙ c.if-is_plain_eight.true))
