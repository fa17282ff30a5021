use mathlib.Core.Path.{sym, ◌≡◌}
use native.Mathlib.Omega.{arith}
use lib.ListN.{length, take}
use lib.Seq.{length-take-le}
use Rattle.iri.proofs.Merging.{merged_end_few, reached}
use Rattle.iri.proofs.references.relative_path.Goals as goal

pub slice_bounds-scratch-end : goal.slice_bounds-scratch-end
slice_bounds-scratch-end c =
    let f = merged_end_few _ c.args.base.now c.args.r.now _ _ _ c.merge-n.ensures in
    omega (arith, c.merge-n.auto.out)

pub slice_bounds-remove_dots-end : goal.slice_bounds-remove_dots-end
slice_bounds-remove_dots-end c =
    let f = merged_end_few _ c.args.base.now c.args.r.now _ _ _ c.merge-n.ensures in
    sym (length-take-le _ _ (omega (arith, c.merge-n.auto.out)))

pub remove_dots-requires : goal.remove_dots-requires
remove_dots-requires c =
    let f = merged_end_few _ c.args.base.now c.args.r.now _ _ _ c.merge-n.ensures in
    let n = c.merge-n.result in
    let l : length (take n c.merge-n.new.out) ≡ n = length-take-le _ _
    (omega (arith, c.merge-n.auto.out)) in
    (omega arith, omega arith)

pub returns : goal.returns
returns c =
    let f = merged_end_few _ c.args.base.now c.args.r.now _ _ _ c.merge-n.ensures in
    reached _ _ _ _ _ _ c.merge-n.ensures _ _ (omega arith) c.remove_dots.ensures
