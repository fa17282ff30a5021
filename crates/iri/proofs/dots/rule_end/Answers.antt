use Rattle.iri.proofs.DotRules.{end_1, end_2, end_3}
use Rattle.iri.proofs.dots.rule_end.Goals as goal

pub returns-then-is_same : goal.returns-then-is_same
returns-then-is_same c = end_1 _ _ c.is_same.ensures c.if-is_same.true

pub returns-then-is_same-2 : goal.returns-then-is_same-2
returns-then-is_same-2 c =
    let is_same = c.is_same in
    end_2 _ _ is_same.ensures c.if-is_same.false _ _ c.is_same-2.ensures c.is_same-3.ensures c.if-is_same-2.true

pub returns : goal.returns
returns c =
    let is_same = c.is_same in
    end_3 _ _ is_same.ensures c.if-is_same.false _ _ c.is_same-2.ensures c.is_same-3.ensures _
    c.if-is_same-2.false c.find.ensures
