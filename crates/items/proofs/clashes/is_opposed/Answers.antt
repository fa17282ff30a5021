use Rattle.chars.proofs.FoldedNames.{text_is, text_folded}
use Rattle.items.proofs.Tests.{opposed_past, opposed_agree, opposed_here}
use mathlib.Core.Bool.{not}
use mathlib.Core.Path.{ap}
use Rattle.items.proofs.clashes.is_opposed.Goals as goal

pub returns-then-m-i : goal.returns-then-m-i
returns-then-m-i c = opposed_past _ _ _ _ _ c.if-m-i.true

pub returns-then-not-tags_disagree : goal.returns-then-not-tags_disagree
returns-then-not-tags_disagree c =
    let if1 = c.if-m-i in
    opposed_agree _ _ _ _ _ if1.false _ c.tag.ensures.1 _ c.tags_disagree.ensures (ap not c.if-not-tags_disagree.true)

pub folds_to-requires : goal.folds_to-requires
folds_to-requires c = text_folded _ _ c.requires _ c.folded_text-w.ensures

pub returns : goal.returns
returns c =
    opposed_here _ _ _ _ _ c.if-m-i.false _ c.tag.ensures.1 _ c.tags_disagree.ensures (ap not c.if-not-tags_disagree.false) _
    c.field.ensures.2 _ (text_is _ _ c.requires _ c.folded_text-w.ensures) _ c.folds_to.ensures
