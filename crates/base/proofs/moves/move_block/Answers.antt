use mathlib.Core.Path.{ap, ◌∙◌}
use native.Mathlib.Omega.{arith}
use Rattle.base.specs.Buffer.{splice}
use Rattle.base.proofs.Parts.{length_part}
use Rattle.base.proofs.Blocks.{slice_part, through_block}
use Rattle.base.proofs.moves.move_block.Goals as goal

pub returns : goal.returns
returns c =
    let a = c.args in
    through_block _ _ _ _ _ _ _ (c.copy_in.ensures ∙ ap (splice _ 0)
    (slice_part _ _ a.n a.pkg.now (omega arith))) c.copy_in-2.ensures
    (length_part a.from a.n a.pkg.now (omega arith)) (omega arith)
