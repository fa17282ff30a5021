use Rattle.pieces.proofs.ChangedRows.{rename_lost, rename_done}
use Rattle.pieces.proofs.rows.rename.Goals as goal

pub respell-requires : goal.respell-requires
respell-requires c =
    let s = c.is_there.ensures.safe c.if-is_there.true in
    let pre = c.requires in
    (s.0, s.1, pre.0, pre.1)

pub returns-then-is_there : goal.returns-then-is_there
returns-then-is_there c = rename_done _ _ _ _ _ c.respell.ensures

pub returns-else-is_there : goal.returns-else-is_there
returns-else-is_there c = rename_lost _ _ _ _ _ c.is_there.ensures c.if-is_there.false
