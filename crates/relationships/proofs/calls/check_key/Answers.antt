use mathlib.Core.Path.{◌∙◌, ap}
use Rattle.output.specs.Refusals.{number_of}
use Rattle.output.proofs.Answering.{refused_on}
use Rattle.relationships.proofs.RelationshipCalls.{key_source, key_fine, key_unidentified}
use Rattle.relationships.proofs.calls.check_key.Goals as goal

pub returns-in_err-check_source : goal.returns-in_err-check_source
returns-in_err-check_source c =
    let args = c.args in
    ap number_of (refused_on _ _ c.from_residual.ensures.1)
    ∙ key_source args.source.now args.id.now _ c.in_err-check_source.ensures

pub returns-then-is_id : goal.returns-then-is_id
returns-then-is_id c =
    let args = c.args in
    key_fine args.source.now args.id.now c.in_ok-check_source.ensures _ c.is_id.ensures c.if-is_id.true

pub returns : goal.returns
returns c =
    let args = c.args in
    key_unidentified args.source.now args.id.now c.in_ok-check_source.ensures _ c.is_id.ensures c.if-is_id.false
