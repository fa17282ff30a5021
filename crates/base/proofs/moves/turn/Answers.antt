use mathlib.Core.Path.{◌≡◌, ap, ◌∙◌}
use Prim.Native.Nat.{ℕ, min}
use native.Mathlib.Omega.{arith}
use Rattle.base.specs.Buffer.{splice}
use Rattle.base.proofs.Turns.{turned, turn_left, turn_none, turn_more}
use Rattle.base.proofs.moves.turn.Goals as goal

pub returns-then-k-n : goal.returns-then-k-n
returns-then-k-n c = turn_left c.args.pkg.now _ _ (omega arith) _ _ (omega arith) c.rotate_left.ensures.after

pub loop-i-init : goal.loop-i-init
loop-i-init c =
    let a = c.args in
    let e : 0 ≡ min 0 a.k = omega arith in
    turn_none _ _ _ (omega arith) ∙ ap (λ (x : ℕ). splice a.pkg.now a.a (turned a.a a.n x a.pkg.now)) e

pub loop-i-preserved : goal.loop-i-preserved
loop-i-preserved c =
    turn_more c.args.pkg.now c.args.a c.args.n (omega arith) _ _ c.loop-i.i c.min.result _ _ (omega arith) (omega arith) (omega arith) c.loop-i.invariant c.turn_block.ensures

pub returns-else-k-n : goal.returns-else-k-n
returns-else-k-n c =
    let a = c.args in
    let e : min c.loop-i.i a.k ≡ a.k = omega arith in
    c.loop-i.invariant ∙ ap (λ (x : ℕ). splice a.pkg.now a.a (turned a.a a.n x a.pkg.now)) e

pub returns-else-k-n-2 : goal.returns-else-k-n-2
returns-else-k-n-2 c =
    turn_more c.args.pkg.now c.args.a c.args.n (omega arith) _ _ c.loop-i.i c.min.result _ _ (omega arith) (omega arith) (omega arith) c.loop-i.invariant c.turn_block.ensures
