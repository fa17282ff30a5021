use mathlib.Core.Path.{sym, ◌∙◌}
use native.Mathlib.Omega.{arith}
use Rattle.chars.proofs.Comparisons.{lengths_differ, equivalent_at, equivalent_end}
use Rattle.chars.proofs.SameStarts.{equivalent_skip}
use Rattle.chars.proofs.folding.is_equivalent.Goals as goal

pub returns-then-a-b : goal.returns-then-a-b
returns-then-a-b c = sym (lengths_differ _ _ c.if-a-b.true)

pub loop-i-init : goal.loop-i-init
loop-i-init c = (c.same_start-i.ensures.0, equivalent_skip _ _ _ c.same_start-i.ensures.0 c.same_start-i.ensures.1 c.same_start-i.ensures.2)

pub loop-i-preserved : goal.loop-i-preserved
loop-i-preserved c = (
  omega arith,
  c.loop-i.invariant.1 ∙ equivalent_at _ _ _ _ c.loop-i-test.true (omega arith)
      c.is_same_letter.ensures ∙ rw c.if-not-is_same_letter.false,
)

pub returns-then-not-is_same_letter : goal.returns-then-not-is_same_letter
returns-then-not-is_same_letter c =
    sym (c.loop-i.invariant.1 ∙ equivalent_at _ _ _ _ c.loop-i-test.true (omega arith)
    c.is_same_letter.ensures ∙ rw c.if-not-is_same_letter.true)

pub returns : goal.returns
returns c = sym (c.loop-i.invariant.1 ∙ equivalent_end _ _ _ c.loop-i-test.false (omega arith))
