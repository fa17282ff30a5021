use mathlib.Core.Path.{◌≡◌, sym, ap, ◌∙◌}
use Prim.Native.Nat.{ℕ, ◌+◌, ◌-◌}
use native.Mathlib.Omega.{arith}
use lib.ListN.{take}
use Rattle.chars.specs.Lists.{after_last}
use Rattle.chars.proofs.Searches.{last_hit, last_miss}
use Rattle.chars.proofs.search.find_past.Goals as goal

pub returns-then-s-i : goal.returns-then-s-i
returns-then-s-i c =
    let here : c.loop-i.i - 1 + 1 ≡ c.loop-i.i = omega arith in
    here ∙ sym (c.loop-i.invariant.1 ∙ last_hit _ _ _ c.loop-i-test.true c.loop-i.invariant.0 c.if-s-i.true)

pub loop-i-preserved : goal.loop-i-preserved
loop-i-preserved c = (omega arith, c.loop-i.invariant.1 ∙ last_miss _ _ _ c.loop-i-test.true c.loop-i.invariant.0 c.if-s-i.false)

pub returns : goal.returns
unfolding after_last
returns c =
    let z : c.loop-i.i ≡ 0 = omega arith in
    sym (c.loop-i.invariant.1 ∙ ap (λ (n : ℕ). after_last c.args.b (take n c.args.s.now)) z)
