use Rattle.markup.proofs.Gaps.{text_end, blank_end}
use Rattle.markup.proofs.comments.gap_end.Goals as goal

pub returns-then-text : goal.returns-then-text
returns-then-text c = text_end _ _ _ _ c.requires c.if-text.true c.find.ensures

pub returns : goal.returns
returns c = blank_end _ _ _ _ c.if-text.false c.blanks_end.ensures
