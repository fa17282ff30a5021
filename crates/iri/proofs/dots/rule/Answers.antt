use Rattle.iri.proofs.DotRules.{rule_1, rule_2, rule_3, rule_4, rule_5, rule_6}
use Rattle.iri.proofs.dots.rule.Goals as goal

pub returns-then-begins : goal.returns-then-begins
returns-then-begins c = rule_1 _ _ c.begins.ensures c.if-begins.true

pub returns-then-begins-2 : goal.returns-then-begins-2
returns-then-begins-2 c =
    let begins = c.begins in
    rule_2 _ _ begins.ensures c.if-begins.false _ c.begins-2.ensures c.if-begins-2.true

pub returns-then-begins-3 : goal.returns-then-begins-3
returns-then-begins-3 c =
    let begins = c.begins in
    rule_3 _ _ begins.ensures c.if-begins.false _ c.begins-2.ensures c.if-begins-2.false _ c.begins-3.ensures
    c.if-begins-3.true

pub returns-then-is_same : goal.returns-then-is_same
returns-then-is_same c =
    let begins = c.begins in
    rule_4 _ _ begins.ensures c.if-begins.false _ c.begins-2.ensures c.if-begins-2.false _ c.begins-3.ensures
    c.if-begins-3.false _ c.is_same.ensures c.if-is_same.true

pub returns-then-begins-4 : goal.returns-then-begins-4
returns-then-begins-4 c =
    let begins = c.begins in
    rule_5 _ _ begins.ensures c.if-begins.false _ c.begins-2.ensures c.if-begins-2.false _ c.begins-3.ensures
    c.if-begins-3.false _ c.is_same.ensures c.if-is_same.false _ c.begins-4.ensures c.if-begins-4.true

pub returns : goal.returns
returns c =
    let begins = c.begins in
    rule_6 _ _ begins.ensures c.if-begins.false _ c.begins-2.ensures c.if-begins-2.false _ c.begins-3.ensures
    c.if-begins-3.false _ c.is_same.ensures c.if-is_same.false _ c.begins-4.ensures _ c.if-begins-4.false
    c.rule_end.ensures
