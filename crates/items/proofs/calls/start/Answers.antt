use Rattle.items.proofs.Starting.{start_big, start_short, start_done}
use Rattle.items.proofs.calls.start.Goals as goal

pub returns-then-capacity-gt-CAPACITY_LIMIT : goal.returns-then-capacity-gt-CAPACITY_LIMIT
returns-then-capacity-gt-CAPACITY_LIMIT c = start_big _ _ c.if-capacity-gt-CAPACITY_LIMIT.true

pub returns-then-pkg-c : goal.returns-then-pkg-c
returns-then-pkg-c c = start_short _ _ c.if-capacity-gt-CAPACITY_LIMIT.false c.if-pkg-c.true

pub returns : goal.returns
returns c =
    let if1 = c.if-capacity-gt-CAPACITY_LIMIT in
    start_done _ _ _ if1.false c.if-pkg-c.false c.init.ensures c.init.auto.pkg
