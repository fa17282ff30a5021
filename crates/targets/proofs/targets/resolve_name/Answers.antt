use mathlib.Core.Path.{sym, ap}
use native.Mathlib.Omega.{arith}
use lib.Seq.{length-take-le}
use Rattle.targets.proofs.Judging.{target_no, target_few, target_none, target_reserved, target_named}
use mathlib.Core.Bool.{not}
use Rattle.targets.proofs.targets.resolve_name.Goals as goal

pub returns-then-not-is_internal : goal.returns-then-not-is_internal
returns-then-not-is_internal c =
    target_no c.args.source.now c.args.target.now _ c.is_internal.ensures (ap not c.if-not-is_internal.true)

pub relative_path-k-requires : goal.relative_path-k-requires
relative_path-k-requires c = (
  c.requires.0,
  target_few c.args.source.now c.args.target.now _ c.is_internal.ensures
      (ap not c.if-not-is_internal.false),
  c.requires.1,
)

pub slice_bounds-is_part_name-end : goal.slice_bounds-is_part_name-end
slice_bounds-is_part_name-end c =
    omega (
      arith,
      c.relative_path-k.ensures.few,
      c.requires.0,
      target_few c.args.source.now
          c.args.target.now _ c.is_internal.ensures (ap not c.if-not-is_internal.false),
      c.relative_path-k.auto.out,
      c.requires.1,
    )

pub slice_bounds-is_part_name-end-2 : goal.slice_bounds-is_part_name-end-2
slice_bounds-is_part_name-end-2 c =
    sym (length-take-le _ _ (omega (
      arith,
      c.relative_path-k.ensures.few,
      c.requires.0,
      target_few c.args.source.now
          c.args.target.now _ c.is_internal.ensures (ap not c.if-not-is_internal.false),
      c.relative_path-k.auto.out,
      c.requires.1,
    )))

pub returns-then-not-is_part_name : goal.returns-then-not-is_part_name
returns-then-not-is_part_name c =
    target_none c.args.source.now c.args.target.now _ c.is_internal.ensures (ap not c.if-not-is_internal.false) _ _
    c.relative_path-k.ensures _ c.is_part_name.ensures (ap not c.if-not-is_part_name.true)

pub slice_bounds-is_reserved-end : goal.slice_bounds-is_reserved-end
slice_bounds-is_reserved-end c =
    omega (
      arith,
      c.relative_path-k.ensures.few,
      c.requires.0,
      target_few c.args.source.now
          c.args.target.now _ c.is_internal.ensures (ap not c.if-not-is_internal.false),
      c.relative_path-k.auto.out,
      c.requires.1,
    )

pub slice_bounds-is_reserved-end-2 : goal.slice_bounds-is_reserved-end-2
slice_bounds-is_reserved-end-2 c =
    sym (length-take-le _ _ (omega (
      arith,
      c.relative_path-k.ensures.few,
      c.requires.0,
      target_few c.args.source.now
          c.args.target.now _ c.is_internal.ensures (ap not c.if-not-is_internal.false),
      c.relative_path-k.auto.out,
      c.requires.1,
    )))

pub returns-then-is_reserved : goal.returns-then-is_reserved
returns-then-is_reserved c =
    target_reserved c.args.source.now c.args.target.now _ c.is_internal.ensures (ap not c.if-not-is_internal.false)
    _ _ c.relative_path-k.ensures _ c.is_part_name.ensures (ap not c.if-not-is_part_name.false) _
    c.is_reserved.ensures c.if-is_reserved.true

pub returns : goal.returns
returns c =
    target_named c.args.source.now c.args.target.now _ c.is_internal.ensures (ap not c.if-not-is_internal.false) _ _
    c.relative_path-k.ensures _ c.is_part_name.ensures (ap not c.if-not-is_part_name.false) _
    c.is_reserved.ensures c.if-is_reserved.false
    (omega (
      arith,
      c.relative_path-k.ensures.few,
      c.requires.0,
      target_few c.args.source.now
          c.args.target.now _ c.is_internal.ensures (ap not c.if-not-is_internal.false),
      c.relative_path-k.auto.out,
      c.requires.1,
    ))
