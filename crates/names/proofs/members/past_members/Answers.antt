use mathlib.Core.Path.{sym, ap, ◌∙◌}
use mathlib.Core.Bool.{not}
use Prim.Native.Nat.{ℕ}
use native.Mathlib.Omega.{arith, max_cases}
use Rattle.chars.specs.Bytes.{member}
use Rattle.chars.proofs.Searches.{first_hit, first_miss, first_end_lem}
use Rattle.names.proofs.members.past_members.Goals as goal

pub returns-then-not-is_member : goal.returns-then-not-is_member
returns-then-not-is_member c =
    sym (c.loop-i.invariant.1 ∙ first_hit (λ (x : ℕ). not (member _ x)) _ _ _ c.loop-i-test.true (ap not c.is_member.ensures) (ap not c.if-not-is_member.true))

pub loop-i-preserved : goal.loop-i-preserved
loop-i-preserved c = (
  omega (arith, max_cases),
  c.loop-i.invariant.1
      ∙ first_miss (λ (x : ℕ). not (member _ x)) _ _ _ c.loop-i-test.true (ap not c.is_member.ensures) (ap not c.if-not-is_member.false),
)

pub returns : goal.returns
returns c =
    omega (arith, max_cases, c.max.ensures)
    ∙ sym (c.loop-i.invariant.1 ∙ first_end_lem (λ (x : ℕ). not (member _ x)) _ _ c.loop-i-test.false)
