use native.Mathlib.Omega.{arith}
use Rattle.markup.proofs.TagEnds.{mark_is}
use Rattle.markup.proofs.tags.mark_of.Goals as goal

pub returns : goal.returns
returns c = (mark_is _ _ _ c.requires.0 c.requires.1, omega arith)
