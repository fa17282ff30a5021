use Rattle.store.proofs.Removing.{remove_never, remove_is}
use Rattle.store.proofs.rows.remove.Goals as goal

pub returns-then-u-k : goal.returns-then-u-k
returns-then-u-k c so =
    absurd (remove_never _ _ _ _ _ _ _ c.requires.r_bound c.get4-n.ensures.0 c.get4-u.ensures c.get4-e.ensures
    c.offset-o.ensures.0 c.size-k.ensures.0 so c.if-u-k.true)

pub returns : goal.returns
returns c so =
    remove_is _ _ _ _ _ _ _ c.requires.r_bound c.get4-n.ensures.0 c.get4-u.ensures c.get4-e.ensures
    c.offset-o.ensures.0 c.size-k.ensures.0 so _ _ _ c.end_without.ensures
    c.shift.ensures c.put_counts.ensures
