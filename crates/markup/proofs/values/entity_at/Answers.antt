use Rattle.markup.proofs.Units.{is_lt, is_gt, is_amp, is_apos, is_quot, is_none}
use Rattle.markup.proofs.values.entity_at.Goals as goal

pub returns-then-is_entity : goal.returns-then-is_entity
returns-then-is_entity c = is_lt _ _ c.requires _ c.is_entity.ensures c.if-is_entity.true

pub returns-then-is_entity-2 : goal.returns-then-is_entity-2
returns-then-is_entity-2 c = is_gt _ _ c.requires _ c.is_entity.ensures c.if-is_entity.false _ c.is_entity-2.ensures c.if-is_entity-2.true

pub returns-then-is_entity-3 : goal.returns-then-is_entity-3
returns-then-is_entity-3 c =
    is_amp _ _ c.requires _ c.is_entity.ensures c.if-is_entity.false _ c.is_entity-2.ensures c.if-is_entity-2.false _ c.is_entity-3.ensures
    c.if-is_entity-3.true

pub returns-then-is_entity-4 : goal.returns-then-is_entity-4
returns-then-is_entity-4 c =
    is_apos _ _ c.requires _ c.is_entity.ensures c.if-is_entity.false _ c.is_entity-2.ensures c.if-is_entity-2.false _ c.is_entity-3.ensures
    c.if-is_entity-3.false _ c.is_entity-4.ensures c.if-is_entity-4.true

pub returns-then-is_entity-5 : goal.returns-then-is_entity-5
returns-then-is_entity-5 c =
    is_quot _ _ c.requires _ c.is_entity.ensures c.if-is_entity.false _ c.is_entity-2.ensures c.if-is_entity-2.false _ c.is_entity-3.ensures
    c.if-is_entity-3.false _ c.is_entity-4.ensures c.if-is_entity-4.false _ c.is_entity-5.ensures c.if-is_entity-5.true

pub returns : goal.returns
returns c =
    is_none _ _ c.requires _ c.is_entity.ensures c.if-is_entity.false _ c.is_entity-2.ensures c.if-is_entity-2.false _ c.is_entity-3.ensures
    c.if-is_entity-3.false _ c.is_entity-4.ensures c.if-is_entity-4.false _ c.is_entity-5.ensures c.if-is_entity-5.false
