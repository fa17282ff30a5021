use Rattle.iri.specs.References.{resolve, resolve_reference}
use Rattle.output.proofs.Answering.{answer_refused, fitted_short, fitted_bytes}
use Rattle.iri.proofs.Transforms.{reference_base, reference_no, reference_text, judged_few}
use mathlib.Core.List.{[]}
use Rattle.output.specs.declared.refusals.Refusal.TheVariants.{BadTarget}
use mathlib.Core.Bool.{not}
use mathlib.Core.Path.{ap}
use Rattle.iri.proofs.references.resolve_reference.Goals as goal

pub returns-then-not-is_package_iri : goal.returns-then-not-is_package_iri
returns-then-not-is_package_iri c =
    answer_refused (resolve_reference c.args.base.now c.args.reference.now) BadTarget c.args.out.now
    (reference_base c.args.base.now c.args.reference.now _ c.is_package_iri.ensures
    (ap not c.if-not-is_package_iri.true))

pub returns-then-not-is_iri : goal.returns-then-not-is_iri
returns-then-not-is_iri c =
    answer_refused (resolve_reference c.args.base.now c.args.reference.now) BadTarget c.args.out.now
    (reference_no c.args.base.now c.args.reference.now _ c.is_package_iri.ensures
    (ap not c.if-not-is_package_iri.false) _ c.is_iri.ensures (ap not c.if-not-is_iri.true))

pub put_reference-need-requires : goal.put_reference-need-requires
put_reference-need-requires c =
    let args = c.args in
    judged_few args.base.now args.reference.now _ c.is_package_iri.ensures (ap not c.if-not-is_package_iri.false) _
    c.is_iri.ensures (ap not c.if-not-is_iri.false)

pub returns-then-out-need : goal.returns-then-out-need
returns-then-out-need c =
    let args = c.args in
    fitted_short 1 (resolve_reference args.base.now args.reference.now) (resolve args.base.now args.reference.now) []
    args.out.now _ _ (reference_text args.base.now args.reference.now _ c.is_package_iri.ensures
    (ap not c.if-not-is_package_iri.false) _ c.is_iri.ensures (ap not c.if-not-is_iri.false)) c.put_reference-need.ensures
    c.put_reference-need.auto.out c.if-out-need.true

pub returns : goal.returns
returns c =
    let args = c.args in
    fitted_bytes 1 (resolve_reference args.base.now args.reference.now) (resolve args.base.now args.reference.now) []
    args.out.now _ _ (reference_text args.base.now args.reference.now _ c.is_package_iri.ensures
    (ap not c.if-not-is_package_iri.false) _ c.is_iri.ensures (ap not c.if-not-is_iri.false)) c.put_reference-need.ensures
    c.put_reference-need.auto.out c.if-out-need.false
