use Rattle.std.proofs.Common.{arith}
use Rattle.markup.proofs.Units.{plain_none, plain_more, plain_done}
use Rattle.markup.proofs.values.are_plain.Goals as goal

pub loop-k-init : goal.loop-k-init
loop-k-init c e = plain_none c.args.s.now c.args.i

pub loop-k-preserved : goal.loop-k-preserved
loop-k-preserved c = plain_more c.args.s.now c.args.i c.loop-k.k _ c.loop-k.invariant (omega arith) _ c.is_plain-all.ensures

pub returns : goal.returns
returns c = plain_done c.args.s.now c.args.i c.loop-k.k _ c.loop-k.invariant 16 (omega arith)
