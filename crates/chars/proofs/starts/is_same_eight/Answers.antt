use lib.ListN.{drop}
use Rattle.chars.proofs.SameStarts.{same_none, eight_next, eight_all}
use Rattle.chars.proofs.starts.is_same_eight.Goals as goal

pub loop-k-init : goal.loop-k-init
loop-k-init g c = same_none g.P.Case.read g.Q.Case.read (drop c.args.i c.args.a.now) (drop c.args.i c.args.b.now)

pub loop-k-preserved : goal.loop-k-preserved
loop-k-preserved g c =
    eight_next g.P.Case.read g.Q.Case.read c.args.a.now c.args.b.now c.args.i c.loop-k.k c.loop-k.same c.loop-k.invariant c.requires.0 c.requires.1
    c.loop-k-test.true _ _ c.read.ensures c.read-in-loop-k.ensures

pub returns : goal.returns
returns g c =
    eight_all g.P.Case.read g.Q.Case.read c.args.a.now c.args.b.now c.args.i c.loop-k.k c.loop-k.same c.loop-k.invariant c.loop-k.auto.k-end
    c.loop-k-test.false
