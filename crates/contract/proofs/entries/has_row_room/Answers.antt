use Rattle.contract.proofs.RowEntries.{roomy_many, roomy_slots, roomy_bytes}
use Rattle.contract.proofs.entries.has_row_room.Goals as goal

pub returns-then-is_full : goal.returns-then-is_full
returns-then-is_full c = roomy_many _ _ _ _ _ c.is_full.ensures c.if-is_full.true

pub returns-then-count-ge-SLOT_COUNT : goal.returns-then-count-ge-SLOT_COUNT
returns-then-count-ge-SLOT_COUNT c = roomy_slots _ _ _ _ _ c.is_full.ensures c.if-is_full.false _ c.count.ensures.0 c.if-count-ge-SLOT_COUNT.true

pub returns : goal.returns
returns c =
    roomy_bytes _ _ _ _ _ c.is_full.ensures c.if-is_full.false _ c.count.ensures.0 c.if-count-ge-SLOT_COUNT.false
    _ c.free.ensures _ c.has_room.ensures
