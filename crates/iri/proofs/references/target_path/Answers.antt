use Prim.Native.Nat.{◌-◌}
use mathlib.Core.Path.{sym}
use native.Mathlib.Omega.{arith}
use lib.Seq.{length-take-le}
use Rattle.base.proofs.Lists.{length_part_le, length_take_le_length}
use Rattle.iri.proofs.Transforms.{went_own, went_base, reference_path_le, went_merged}
use Rattle.iri.proofs.references.target_path.Goals as goal

pub returns-then-ra-ne0 : goal.returns-then-ra-ne0
returns-then-ra-ne0 c =
    went_own c.args.base.now c.args.r.now c.args.b c.args.x c.requires.0 c.if-ra-ne0.true
    _ _ c.remove_dots.ensures

pub returns-then-rp-eq0 : goal.returns-then-rp-eq0
returns-then-rp-eq0 c =
    went_base c.args.base.now c.args.r.now c.args.b c.args.x c.requires.0 c.if-ra-ne0.false
    c.if-rp-eq0.true _ _ _ c.requires.1 c.emit.ensures

pub slice_bounds-relative_path-end-2 : goal.slice_bounds-relative_path-end-2
slice_bounds-relative_path-end-2 c =
    sym (length-take-le _ _ (reference_path_le c.args.base.now c.args.r.now c.args.b c.args.x
    c.requires.0))

pub relative_path-requires : goal.relative_path-requires
relative_path-requires c = (
  omega (
    arith,
    length_part_le (c.args.b.path - c.args.b.authority) c.args.b.authority
        c.args.base.now,
    c.requires.0.base_few,
  ),
  omega
      (arith, length_take_le_length c.args.x.path c.args.r.now, c.requires.0.reference_few),
  c.requires.1,
)

pub returns : goal.returns
returns c =
    went_merged c.args.base.now c.args.r.now c.args.b c.args.x c.requires.0
    c.if-ra-ne0.false c.if-rp-eq0.false _ _ c.relative_path.ensures
