use Rattle.markup.proofs.AttributePlaces.{attribute_nameless, attribute_unequated, equals_within, attribute_valueless, attribute_given}
use Rattle.markup.proofs.attributes.attribute.Goals as goal

pub returns-then-name_end-at : goal.returns-then-name_end-at
returns-then-name_end-at c = attribute_nameless _ _ _ c.name_end-name_end.ensures.1 c.if-name_end-at.true

pub returns-then-byte_at-ne61 : goal.returns-then-byte_at-ne61
returns-then-byte_at-ne61 c =
    attribute_unequated _ _ _ c.name_end-name_end.ensures.1 c.if-name_end-at.false _ _
    c.blanks_end-e.ensures.1 c.byte_at.ensures c.if-byte_at-ne61.true

pub blanks_end-q-requires : goal.blanks_end-q-requires
blanks_end-q-requires c =
    equals_within _ _ _ c.name_end-name_end.ensures.1 c.if-name_end-at.false _ _
    c.blanks_end-e.ensures.1 c.byte_at.ensures c.if-byte_at-ne61.false

pub returns-in_err-to : goal.returns-in_err-to
returns-in_err-to c =
    rw c.from_residual.ensures
    (attribute_valueless _ _ _ c.name_end-name_end.ensures.1 c.if-name_end-at.false _ _
    c.blanks_end-e.ensures.1 c.byte_at.ensures c.if-byte_at-ne61.false _ _
    c.blanks_end-q.ensures.1 c.value_end.ensures c.in_err-to.was)

pub returns : goal.returns
returns c =
    attribute_given _ _ _ c.name_end-name_end.ensures.1 c.if-name_end-at.false _ _
    c.blanks_end-e.ensures.1 c.byte_at.ensures c.if-byte_at-ne61.false _ _
    c.blanks_end-q.ensures.1 c.value_end.ensures
    c.name_end-name_end.ensures.0.0 c.blanks_end-e.ensures.0.0 c.blanks_end-q.ensures.0.0 _ c.in_ok-to.was
