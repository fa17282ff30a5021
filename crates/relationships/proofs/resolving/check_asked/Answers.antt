use mathlib.Core.Path.{◌∙◌, ap}
use Rattle.output.specs.Refusals.{number_of}
use Rattle.output.proofs.Answering.{refused_on}
use Rattle.relationships.proofs.TargetResolutions.{asked_key, asked_fine, asked_no_package}
use Rattle.relationships.proofs.resolving.check_asked.Goals as goal

pub returns-in_err-check_key : goal.returns-in_err-check_key
returns-in_err-check_key c =
    let args = c.args in
    ap number_of (refused_on _ _ c.from_residual.ensures.1)
    ∙ asked_key args.source.now args.id.now args.base.now _ c.in_err-check_key.ensures

pub returns-then-is_package_iri : goal.returns-then-is_package_iri
returns-then-is_package_iri c =
    let args = c.args in
    asked_fine args.source.now args.id.now args.base.now c.in_ok-check_key.ensures _ c.is_package_iri.ensures c.if-is_package_iri.true

pub returns : goal.returns
returns c =
    let args = c.args in
    asked_no_package args.source.now args.id.now args.base.now c.in_ok-check_key.ensures _ c.is_package_iri.ensures c.if-is_package_iri.false
