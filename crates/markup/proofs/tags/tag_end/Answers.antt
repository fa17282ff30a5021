use Rattle.markup.proofs.TagEnds.{empty_end, open_end, no_end}
use Rattle.markup.proofs.tags.tag_end.Goals as goal

pub returns-then-stands : goal.returns-then-stands
returns-then-stands c = empty_end _ _ _ _ c.requires _ c.stands.ensures c.if-stands.true

pub returns-then-stands-2 : goal.returns-then-stands-2
returns-then-stands-2 c =
    open_end _ _ _ _ c.requires _ c.stands.ensures c.if-stands.false _
    c.stands-2.ensures c.if-stands-2.true

pub returns : goal.returns
returns c =
    no_end _ _ _ _ c.requires _ c.stands.ensures c.if-stands.false _
    c.stands-2.ensures c.if-stands-2.false
