use native.Mathlib.Omega.{arith}
use Rattle.pack.proofs.Composing.{unfragmented_length, head_end_few, pack_none, pack_sent}
use Rattle.pack.proofs.pack.put_pack_iri.Goals as goal

pub slice_bounds-put_authority-end : goal.slice_bounds-put_authority-end
slice_bounds-put_authority-end c = unfragmented_length c.args.p.now c.args.path.now c.requires.0 c.requires.1 _ c.find-k.ensures

pub overflow_add-need : goal.overflow_add-need
overflow_add-need c =
    let l = head_end_few c.args.p.now c.args.path.now c.requires.0 c.requires.1 _ c.find-k.ensures _
    _ _ c.put_authority-a.ensures in
    omega (arith, l, c.requires.1)

pub returns-then-out-need : goal.returns-then-out-need
returns-then-out-need c =
    pack_none c.args.p.now c.args.path.now c.requires.0 c.requires.1 _ c.find-k.ensures _ _ _
    c.put_authority-a.ensures c.args.out.now c.put_authority-a.auto.out c.if-out-need.true

pub slice_bounds-put_authority-end-4 : goal.slice_bounds-put_authority-end-4
slice_bounds-put_authority-end-4 c = unfragmented_length c.args.p.now c.args.path.now c.requires.0 c.requires.1 _ c.find-k.ensures

pub returns : goal.returns
returns c =
    pack_sent c.args.p.now c.args.path.now c.requires.0 c.requires.1 _ c.find-k.ensures _ _ _
    c.put_authority-a.ensures c.args.out.now c.put_authority-a.auto.out c.if-out-need.false _
    _ c.put_authority.ensures _ _ c.put_path.ensures
