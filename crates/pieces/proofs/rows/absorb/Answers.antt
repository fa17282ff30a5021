use native.Mathlib.Omega.{arith}
use borrow.Author.Rules.{rules}
use Rattle.pieces.proofs.ChangedRows.{absorb_lost, absorb_stuck, absorb_done}
use Rattle.pieces.proofs.rows.absorb.Goals as goal

pub returns-then-not-is_there : goal.returns-then-not-is_there
returns-then-not-is_there c = absorb_lost _ _ _ c.is_there.ensures c.if-not-is_there.true

pub pass-requires : goal.pass-requires
pass-requires c =
    let s = c.is_there.ensures.safe c.if-not-is_there.false in
    (s.0, s.1, omega (arith, s.1))

pub returns-then-not-is_there-2 : goal.returns-then-not-is_there-2
returns-then-not-is_there-2 c = absorb_stuck _ _ _ _ c.field-n.ensures.2 c.pass.ensures _ c.is_there-2.ensures c.if-not-is_there-2.true

pub remove-requires : goal.remove-requires
remove-requires c =
    let s = c.is_there-2.ensures.safe c.if-not-is_there-2.false in
    record { shape = s.0; r_bound = omega (arith, s.1) }

pub shape_of-pkg : goal.shape_of-pkg
shape_of-pkg c = search
    rules

pub returns : goal.returns
returns c = absorb_done _ _ _ _ c.field-n.ensures.2 c.pass.ensures _ c.remove.ensures
