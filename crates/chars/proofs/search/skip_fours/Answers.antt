use mathlib.Core.Path.{sym, ◌∙◌}
use native.Mathlib.Omega.{arith}
use Rattle.chars.proofs.Searches.{index_miss, index_miss2, index_miss3, index_miss4}
use Rattle.chars.proofs.search.skip_fours.Goals as goal

pub returns-then-s-i-2 : goal.returns-then-s-i-2
returns-then-s-i-2 c = sym (index_miss _ _ _ (omega arith) c.if-s-i.false) ∙ c.loop-i.invariant.1

pub returns-then-s-i-3 : goal.returns-then-s-i-3
returns-then-s-i-3 c = sym (index_miss2 _ _ _ c.if-s-i.false c.if-s-i-2.false (omega arith)) ∙ c.loop-i.invariant.1

pub returns-then-s-i-4 : goal.returns-then-s-i-4
returns-then-s-i-4 c = sym (index_miss3 _ _ _ c.if-s-i.false c.if-s-i-2.false c.if-s-i-3.false (omega arith)) ∙ c.loop-i.invariant.1

pub loop-i-preserved : goal.loop-i-preserved
loop-i-preserved c = (
  omega arith,
  sym (index_miss4 _ _ _ c.if-s-i.false c.if-s-i-2.false c.if-s-i-3.false c.if-s-i-4.false (omega arith)) ∙ c.loop-i.invariant.1,
)
