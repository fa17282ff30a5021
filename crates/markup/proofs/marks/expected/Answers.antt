use Rattle.markup.proofs.Rests.{expected_on, expected_off}
use Rattle.markup.proofs.marks.expected.Goals as goal

pub returns-then-stands : goal.returns-then-stands
returns-then-stands c = expected_on _ _ _ _ c.stands.ensures c.requires c.if-stands.true

pub returns : goal.returns
returns c = expected_off _ _ _ _ c.stands.ensures c.if-stands.false
