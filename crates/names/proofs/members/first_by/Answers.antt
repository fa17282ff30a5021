use mathlib.Core.Path.{sym, ◌∙◌}
use native.Mathlib.Omega.{arith}
use Rattle.chars.specs.Bytes.{member}
use Rattle.chars.proofs.Searches.{first_hit, first_miss, first_end_lem}
use Rattle.names.proofs.members.first_by.Goals as goal

pub returns-then-is_member : goal.returns-then-is_member
returns-then-is_member c =
    sym (c.loop-i.invariant.1 ∙ first_hit (member _) _ _ _ c.loop-i-test.true c.is_member.ensures c.if-is_member.true)

pub loop-i-preserved : goal.loop-i-preserved
loop-i-preserved c =
    (omega arith, c.loop-i.invariant.1 ∙ first_miss (member _) _ _ _ c.loop-i-test.true c.is_member.ensures c.if-is_member.false)

pub returns : goal.returns
returns c = omega arith ∙ sym (c.loop-i.invariant.1 ∙ first_end_lem (member _) _ c.loop-i.i c.loop-i-test.false)
