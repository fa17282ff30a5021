use mathlib.Core.Path.{sym}
use native.Mathlib.Omega.{arith}
use native.Mathlib.Nat.{div-le_self}
use lib.ListN.{length}
use lib.Seq.{length-take-le}
use Rattle.pieces.proofs.CutCalls.{cut_nameless, cut_row_done}
use Rattle.pieces.proofs.cutting.cut_row.Goals as goal

pub slice_bounds-copy_in-end-2 : goal.slice_bounds-copy_in-end-2
slice_bounds-copy_in-end-2 c = sym (length-take-le _ _ c.smaller-p.ensures.1)

pub copy_in-requires : goal.copy_in-requires
copy_in-requires c = omega (arith, slice_bounds-copy_in-end-2 c, c.smaller-p.ensures)

pub returns-then-p-eq0 : goal.returns-then-p-eq0
returns-then-p-eq0 c = cut_nameless _ _ _ _ _ _ c.field-held.ensures.2 c.field-size.ensures.2 c.smaller-p.ensures.0 c.if-p-eq0.true

pub slice_bounds-split-end : goal.slice_bounds-split-end
slice_bounds-split-end c = sym (length-take-le _ _ (omega (arith, c.smaller-p.ensures)))

pub split-requires : goal.split-requires
split-requires c =
    let pre = c.requires in
    let e = slice_bounds-split-end c in
    (pre.0, pre.1, omega (arith, e, c.if-p-eq0.false), omega (arith, e, c.smaller-p.ensures), omega (arith, div-le_self (length c.field-size.result.now) c.args.n, c.field-size.ensures.0))

pub returns : goal.returns
returns c =
    cut_row_done _ _ _ _ _ _ c.field-held.ensures.2 c.field-size.ensures.2 c.smaller-p.ensures.0 _ _ _
    c.copy_in.ensures (omega arith) c.split.ensures
