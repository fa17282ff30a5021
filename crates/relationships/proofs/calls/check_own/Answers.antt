use Rattle.relationships.proofs.RelationshipCalls.{fields_id, fields_type, fields_mode, fields_target}
use mathlib.Core.Bool.{not}
use mathlib.Core.Path.{◌∙◌, ap}
use Rattle.output.specs.Refusals.{number_of}
use Rattle.output.proofs.Answering.{refused_on}
use Rattle.relationships.proofs.calls.check_own.Goals as goal

pub returns-then-not-is_id : goal.returns-then-not-is_id
returns-then-not-is_id c =
    let args = c.args in
    fields_id args.source.now args.id.now args.kind.now args.mode args.target.now c.requires _ c.is_id.ensures (ap not c.if-not-is_id.true)

pub returns-then-not-is_package_iri : goal.returns-then-not-is_package_iri
returns-then-not-is_package_iri c =
    let args = c.args in
    fields_type args.source.now args.id.now args.kind.now args.mode args.target.now c.requires _ c.is_id.ensures (ap not c.if-not-is_id.false) _ c.is_package_iri.ensures (ap not c.if-not-is_package_iri.true)

pub returns-in_err-try_from : goal.returns-in_err-try_from
returns-in_err-try_from c =
    let args = c.args in
    let e = c.in_err-try_from.ensures in
    ap number_of (refused_on _ _ c.from_residual.ensures.1) ∙ e.0
    ∙ fields_mode args.source.now args.id.now args.kind.now args.mode args.target.now c.requires _ c.is_id.ensures (ap not c.if-not-is_id.false) _ c.is_package_iri.ensures (ap not c.if-not-is_package_iri.false) e.1

pub returns : goal.returns
returns c =
    let args = c.args in
    fields_target args.source.now args.id.now args.kind.now args.mode args.target.now c.requires _ c.is_id.ensures (ap not c.if-not-is_id.false) _ c.is_package_iri.ensures (ap not c.if-not-is_package_iri.false) _ _ c.in_ok-try_from.ensures
    c.check_target.ensures
