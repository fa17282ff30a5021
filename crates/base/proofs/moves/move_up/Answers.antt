use mathlib.Core.Path.{◌≡◌, ◌∙◌}
use Prim.Native.Nat.{◌*◌, min}
use native.Mathlib.Omega.{arith}
use native.Mathlib.Nat.{add-zero}
use lib.ListN.{drop_of_length-le}
use Rattle.base.specs.Buffer.{part}
use Rattle.base.proofs.Parts.{length_part}
use Rattle.base.proofs.Copies.{splice_nil}
use Rattle.base.proofs.Blocks.{move_more_before}
use Rattle.base.proofs.moves.move_up.Goals as goal

pub loop-b-init : goal.loop-b-init
loop-b-init c =
    let a = c.args in
    let s = part a.from a.count a.pkg.now in
    rw (drop_of_length-le s {i = min (4096 * c.div_ceil-b.result) a.count} (omega (arith, length_part a.from a.count a.pkg.now))) (splice_nil _ _)

pub loop-b-preserved : goal.loop-b-preserved
loop-b-preserved c =
    let a = c.args in
    move_more_before a.pkg.now _ _ a.from a.to a.count _ _ _ _ (omega arith) (omega arith) (omega arith) (omega arith) (omega arith) (omega arith)
    c.loop-b.invariant c.move_block.ensures

pub returns : goal.returns
returns c =
    let z : min (4096 * c.loop-b.b) c.args.count ≡ 0 = omega arith in
    c.loop-b.invariant ∙ rw (z, add-zero)
