use native.Mathlib.Omega.{arith}
use borrow.Author.Rules.{rules}
use mathlib.Core.Path.{refl}
use Rattle.pieces.proofs.Splits.{dividing_none, dividing_next, dividing_all}
use Rattle.pieces.proofs.splitting.split.Goals as goal

pub loop-k-init : goal.loop-k-init
loop-k-init c = (omega arith, omega arith, dividing_none _ _ _ _ _ _)

pub piece_size-requires : goal.piece_size-requires
piece_size-requires c = search
    rules

pub split_off-requires : goal.split_off-requires
split_off-requires c =
    let pre = c.requires in
    (omega (arith, pre.1), pre.3, pre.2)

pub loop-k-preserved : goal.loop-k-preserved
loop-k-preserved c = (
  omega arith,
  omega arith,
  dividing_next _ _ _ _ _ _ _ _ _ _ _ _ c.loop-k.invariant.2 (omega arith) (omega arith) (omega arith) refl c.piece_size.ensures (omega arith) c.split_off.ensures,
)

pub returns : goal.returns
returns c = dividing_all _ _ _ _ _ _ _ _ _ _ c.loop-k.invariant.2 (omega arith) (omega arith) refl c.name_first.ensures
