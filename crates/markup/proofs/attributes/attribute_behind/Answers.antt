use Rattle.markup.proofs.AttributePlaces.{next_parted, next_unparted}
use Rattle.markup.proofs.attributes.attribute_behind.Goals as goal

pub returns-then-is_blank : goal.returns-then-is_blank
returns-then-is_blank c =
    let pre = c.requires in
    next_parted _ _ _ _ c.byte_at.ensures c.is_blank.ensures _ pre.0.0 pre.1 c.if-is_blank.true _
    c.attribute.ensures

pub returns : goal.returns
returns c = next_unparted _ _ _ _ c.byte_at.ensures c.is_blank.ensures c.if-is_blank.false
