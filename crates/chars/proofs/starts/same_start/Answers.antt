use mathlib.Core.Path.{◌≡◌, sym, ◌∙◌}
use Prim.Native.Nat.{◌+◌, ◌*◌}
use native.Mathlib.Omega.{arith}
use Rattle.chars.proofs.SameStarts.{agree_eq, take_longer}
use Rattle.chars.proofs.starts.same_start.Goals as goal

pub loop-k-preserved : goal.loop-k-preserved
loop-k-preserved g c =
    let k = c.loop-k.k in
    let next : 8 * (k + 1) ≡ 8 * k + 8 = omega arith in
    let read = g.C.Case.read in
    let a = c.args.a.now in
    let b = c.args.b.now in
    (c.loop-k.invariant.0, c.loop-k.invariant.1, rw next (take_longer read a b (8 * k) 8 c.loop-k.invariant.2 (agree_eq read a b (8 * k) (sym c.agree.ensures ∙ c.if-not-agree.false))))
