use mathlib.Core.Path.{sym}
use native.Mathlib.Omega.{arith}
use lib.Seq.{length-take-le}
use Rattle.relationships.proofs.TargetResolutions.{path_end, path_few, internal_short, internal_whole}
use Rattle.relationships.proofs.resolving.resolve_internal.Goals as goal

pub slice_bounds-put_pack_iri-end : goal.slice_bounds-put_pack_iri-end
slice_bounds-put_pack_iri-end c =
    sym (length-take-le _ _ (omega (
      arith,
      path_end c.args.source.now c.args.target.now c.requires.1 c.requires.2 _ _
          c.relative_path-k.ensures,
      c.relative_path-k.auto.out,
    )))

pub put_pack_iri-length-requires : goal.put_pack_iri-length-requires
put_pack_iri-length-requires c = (
  c.requires.3,
  path_few c.args.source.now c.args.target.now c.requires.1 c.requires.2 _ _
      c.relative_path-k.ensures,
)

pub returns-then-out-length : goal.returns-then-out-length
returns-then-out-length c =
    internal_short c.args.source.now c.args.target.now c.requires.1 c.requires.2 _ _
    c.relative_path-k.ensures c.args.pkg.now c.args.base.now c.args.out.now _ _
    c.put_pack_iri-length.ensures c.put_pack_iri-length.auto.out c.if-out-length.true

pub slice_bounds-is_any_part-end : goal.slice_bounds-is_any_part-end
slice_bounds-is_any_part-end c =
    sym (length-take-le _ _ (omega (
      arith,
      path_end c.args.source.now c.args.target.now c.requires.1 c.requires.2 _ _
          c.relative_path-k.ensures,
      c.relative_path-k.auto.out,
    )))

pub returns : goal.returns
returns c =
    internal_whole c.args.source.now c.args.target.now c.requires.1 c.requires.2 _ _
    c.relative_path-k.ensures c.args.pkg.now c.args.base.now c.args.out.now _ _
    c.put_pack_iri-length.ensures c.put_pack_iri-length.auto.out c.if-out-length.false _ c.is_any_part-held.ensures
