use mathlib.Core.Path.{sym, ◌∙◌}
use native.Mathlib.Omega.{arith, max_cases}
use Rattle.chars.proofs.Searches.{index_hit, index_miss, index_end}
use Rattle.chars.proofs.search.find.Goals as goal

pub returns-then-s-i : goal.returns-then-s-i
returns-then-s-i c = sym (c.loop-i.invariant.1 ∙ index_hit _ _ _ c.loop-i-test.true c.if-s-i.true)

pub loop-i-preserved : goal.loop-i-preserved
loop-i-preserved c = (omega (arith, max_cases), c.loop-i.invariant.1 ∙ index_miss _ _ _ c.loop-i-test.true c.if-s-i.false)

pub returns : goal.returns
returns c = omega (arith, max_cases, c.max.ensures) ∙ sym (c.loop-i.invariant.1 ∙ index_end _ _ _ c.loop-i-test.false)
