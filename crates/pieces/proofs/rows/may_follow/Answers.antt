use Rattle.pieces.proofs.ChangedRows.{behind_lost, behind_full, behind_is}
use Rattle.pieces.proofs.rows.may_follow.Goals as goal

pub returns-then-not-is_there : goal.returns-then-not-is_there
returns-then-not-is_there c = behind_lost _ _ _ _ c.is_there.ensures c.if-not-is_there.true

pub returns-then-count-ge-SLOT_COUNT : goal.returns-then-count-ge-SLOT_COUNT
returns-then-count-ge-SLOT_COUNT c = behind_full _ _ _ _ c.count.ensures.0 c.if-count-ge-SLOT_COUNT.true

pub free-requires : goal.free-requires
free-requires c = (c.is_there.ensures.safe c.if-not-is_there.false).0

pub returns : goal.returns
returns c = behind_is _ _ _ _ _ (c.is_there.ensures.safe c.if-not-is_there.false) c.count.ensures.0 c.if-count-ge-SLOT_COUNT.false c.free.ensures
