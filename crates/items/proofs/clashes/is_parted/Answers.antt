use Rattle.chars.proofs.FoldedNames.{text_is, text_folded}
use Rattle.items.proofs.Tests.{parted_none, parted_some}
use Rattle.items.proofs.clashes.is_parted.Goals as goal

pub returns-then-r-eq0 : goal.returns-then-r-eq0
returns-then-r-eq0 c = parted_none _ _ _ c.if-r-eq0.true

pub shared_start-requires : goal.shared_start-requires
shared_start-requires c = text_folded _ _ c.requires _ c.folded_text-w.ensures

pub returns : goal.returns
returns c =
    parted_some _ _ _ c.if-r-eq0.false _ c.field.ensures.2 _
    (text_is _ _ c.requires _ c.folded_text-w.ensures) _ c.shared_start.ensures _ c.byte_at.ensures
