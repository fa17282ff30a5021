use Rattle.items.proofs.Tests.{extends_long, extends_short}
use Rattle.items.proofs.clashes.is_longer.Goals as goal

pub returns-then-n-q : goal.returns-then-n-q
returns-then-n-q c = extends_long _ _ c.requires _ c.shared_start.ensures c.if-n-q.true

pub returns : goal.returns
returns c =
    let args = c.args in
    extends_short args.q.now args.w.now c.if-n-q.false
