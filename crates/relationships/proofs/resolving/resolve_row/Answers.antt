use Rattle.relationships.proofs.TargetResolutions.{row_long_target, row_external, row_long_source, row_internal}
use Rattle.relationships.proofs.resolving.resolve_row.Goals as goal

pub returns-then-target-gt255 : goal.returns-then-target-gt255
returns-then-target-gt255 c =
    row_long_target c.args.pkg.now _ c.requires.1 c.args.base.now c.args.out.now _
    c.field-target.ensures.2 c.if-target-gt255.true

pub returns-then-tag-eq-EXTERNAL_TAG : goal.returns-then-tag-eq-EXTERNAL_TAG
returns-then-tag-eq-EXTERNAL_TAG c =
    row_external c.args.pkg.now _ c.requires.1 c.args.base.now c.args.out.now _
    c.field-target.ensures.2 _ c.tag.ensures.1 c.if-tag-eq-EXTERNAL_TAG.true _ c.resolve_external.ensures

pub returns-then-source-gt255 : goal.returns-then-source-gt255
returns-then-source-gt255 c =
    row_long_source c.args.pkg.now _ c.requires.1 c.args.base.now c.args.out.now _
    c.field-target.ensures.2 _ c.tag.ensures.1 c.if-tag-eq-EXTERNAL_TAG.false _ c.field-source.ensures.2 c.if-source-gt255.true

pub returns : goal.returns
returns c =
    row_internal c.args.pkg.now _ c.requires.1 c.args.base.now c.args.out.now _
    c.field-target.ensures.2 _ c.tag.ensures.1 c.if-tag-eq-EXTERNAL_TAG.false _ c.field-source.ensures.2 _
    c.resolve_internal.ensures
