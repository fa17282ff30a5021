use mathlib.Core.Path.{refl}
use Rattle.chars.specs.Lists.{every}
use Rattle.names.specs.PlainBytes.{plain}
use Rattle.chars.proofs.SameStarts.{every_eight}
use Rattle.names.proofs.plain.is_plain_eight.Goals as goal

pub loop-k-init : goal.loop-k-init
unfolding every
loop-k-init c = refl

pub loop-k-preserved : goal.loop-k-preserved
loop-k-preserved c = every_eight plain c.args.s.now c.args.i c.loop-k.k c.requires c.loop-k-test.true _ _ c.loop-k.invariant c.is_plain-plain.ensures
