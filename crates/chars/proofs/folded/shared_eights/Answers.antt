use mathlib.Core.Path.{◌≡◌, sym, ◌∙◌}
use Prim.Native.Nat.{◌+◌, ◌*◌}
use native.Mathlib.Omega.{arith}
use Rattle.chars.proofs.FoldedNames.{shared_more}
use Rattle.chars.proofs.folded.shared_eights.Goals as goal

pub loop-k-preserved : goal.loop-k-preserved
loop-k-preserved g c =
    let k = c.loop-k.k in
    let from = c.args.from in
    let next : from + 8 * (k + 1) ≡ from + 8 * k + 8 = omega arith in (
      c.loop-k.invariant.0,
      c.loop-k.invariant.1,
      rw next (shared_more _ _ from (from + 8 * k) c.loop-k.invariant.2 c.requires g.C.Case.read g.C.Case.laws (omega (arith, c.loop-k.invariant.0, c.loop-k-test.true)) (omega (arith, c.loop-k.invariant.1, c.loop-k-test.true))
          (sym c.agree.ensures ∙ c.if-not-agree.false)),
    )
