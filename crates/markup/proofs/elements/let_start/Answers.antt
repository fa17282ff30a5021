use Rattle.markup.proofs.TagEnds.{deep_stops, text_passes, prefix_passes, bare_stops}
use Rattle.markup.proofs.elements.let_start.Goals as goal

pub returns-then-left-eq0 : goal.returns-then-left-eq0
returns-then-left-eq0 c = deep_stops c.args.s.now c.args.at _ c.args.text c.if-left-eq0.true

pub returns-then-text : goal.returns-then-text
returns-then-text c = text_passes c.args.s.now c.args.at _ _ c.if-left-eq0.false c.if-text.true

pub returns-then-is_prefixed : goal.returns-then-is_prefixed
returns-then-is_prefixed c =
    prefix_passes _ _ _ _ c.if-left-eq0.false c.if-text.false _ c.name_end.ensures.1 _
    c.is_prefixed.ensures c.if-is_prefixed.true

pub returns : goal.returns
returns c =
    bare_stops _ _ _ _ c.if-left-eq0.false c.if-text.false _ c.name_end.ensures.1 _
    c.is_prefixed.ensures c.if-is_prefixed.false
