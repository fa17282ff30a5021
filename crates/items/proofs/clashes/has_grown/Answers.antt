use Rattle.chars.proofs.FoldedNames.{text_is, text_folded}
use Rattle.items.proofs.GrowingRows.{grown_all, grown_next, grown_yes, grown_none}
use Rattle.items.proofs.clashes.has_grown.Goals as goal

pub loop-i-init : goal.loop-i-init
loop-i-init c = grown_all _ _ _

pub is_grown-requires : goal.is_grown-requires
is_grown-requires c = text_folded _ _ c.requires.1 _ c.folded_text-w.ensures

pub returns-then-is_grown : goal.returns-then-is_grown
returns-then-is_grown c =
    grown_yes _ _ _ _ c.loop-i.invariant c.loop-i-test.true c.requires.0 _ c.field.ensures.2 _
    (text_is _ _ c.requires.1 _ c.folded_text-w.ensures) _ c.is_grown.ensures c.if-is_grown.true

pub loop-i-preserved : goal.loop-i-preserved
loop-i-preserved c =
    grown_next _ _ _ _ c.loop-i.invariant c.loop-i-test.true c.requires.0 _ c.field.ensures.2 _
    (text_is _ _ c.requires.1 _ c.folded_text-w.ensures) _ c.is_grown.ensures c.if-is_grown.false

pub returns : goal.returns
returns c = grown_none _ _ _ _ c.loop-i.invariant c.loop-i-test.false
