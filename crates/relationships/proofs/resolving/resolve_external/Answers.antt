use Rattle.relationships.proofs.TargetResolutions.{bare_length, bare_few, external_short, external_whole}
use Rattle.relationships.proofs.resolving.resolve_external.Goals as goal

pub slice_bounds-put_reference-end : goal.slice_bounds-put_reference-end
slice_bounds-put_reference-end c = bare_length c.args.target.now c.args.base.now c.requires.0 c.requires.1 _ c.find-k.ensures

pub put_reference-length-requires : goal.put_reference-length-requires
put_reference-length-requires c = bare_few c.args.target.now c.args.base.now c.requires.0 c.requires.1 _ c.find-k.ensures

pub returns-then-out-length : goal.returns-then-out-length
returns-then-out-length c =
    external_short c.args.target.now c.args.base.now c.requires.0 c.requires.1 _ c.find-k.ensures
    c.args.out.now _ _ c.put_reference-length.ensures c.put_reference-length.auto.out
    c.if-out-length.true

pub returns : goal.returns
returns c =
    external_whole c.args.target.now c.args.base.now c.requires.0 c.requires.1 _ c.find-k.ensures
    c.args.out.now _ _ c.put_reference-length.ensures c.put_reference-length.auto.out c.if-out-length.false
