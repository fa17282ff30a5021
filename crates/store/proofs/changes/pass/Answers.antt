use Rattle.store.proofs.Passed.{passed_brought, pass_few}
use Rattle.store.proofs.changes.pass.Goals as goal

pub returns-then-u-n : goal.returns-then-u-n
returns-then-u-n c so pa = absurd (pass_few _ _ _ _ _ c.get4-u.ensures.0 c.if-u-n.true so pa)

pub returns : goal.returns
returns c = passed_brought _ _ _ _ _ _ _ _ c.get4-rows.ensures.0 c.get4-u.ensures.0 c.bring_last.ensures c.pass_back.ensures
