use native.Mathlib.Omega.{arith}
use Rattle.base.proofs.Turns.{turn_block}
use Rattle.base.proofs.moves.turn_block.Goals as goal

pub returns : goal.returns
returns c =
    let a = c.args in
    turn_block a.pkg.now a.a a.n (omega arith) _ _ _ _ a.k (omega arith) (omega arith) c.copy_in.ensures c.move_down.ensures c.copy_in-2.ensures
