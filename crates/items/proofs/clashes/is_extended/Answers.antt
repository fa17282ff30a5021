use Rattle.chars.proofs.FoldedNames.{text_is, text_folded}
use Rattle.items.proofs.Tests.{extended_past, extended_here}
use Rattle.items.proofs.clashes.is_extended.Goals as goal

pub returns-then-m-i : goal.returns-then-m-i
returns-then-m-i c = extended_past _ _ _ _ c.if-m-i.true

pub is_longer-requires : goal.is_longer-requires
is_longer-requires c = text_folded _ _ c.requires _ c.folded_text-w.ensures

pub returns : goal.returns
returns c =
    extended_here _ _ _ _ c.if-m-i.false _ c.field.ensures.2 _
    (text_is _ _ c.requires _ c.folded_text-w.ensures) _ c.is_longer.ensures
