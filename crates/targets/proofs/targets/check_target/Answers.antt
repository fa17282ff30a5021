use native.Mathlib.Omega.{arith}
use mathlib.Core.Path.{sym, ◌∙◌, ap}
use Rattle.output.specs.Refusals.{number_of}
use Rattle.output.proofs.Answering.{refused_on}
use Rattle.targets.specs.Targets.{mode_number}
use Rattle.targets.proofs.Judging.{refusal_none, refusal_9, refusal_internal}
use Rattle.targets.proofs.targets.check_target.Goals as goal

pub returns-in_err-resolve_name-in-Internal : goal.returns-in_err-resolve_name-in-Internal
returns-in_err-resolve_name-in-Internal c =
    let args = c.args in
    ap number_of (refused_on _ _ c.from_residual.ensures.1)
    ∙ sym (refusal_internal (mode_number args.mode) args.source.now args.target.now c.if-source-gt255.false (ap mode_number c.in-Internal.is)
    ∙ c.in_err-resolve_name-in-Internal.ensures)

pub returns-in_ok-resolve_name-in-Internal : goal.returns-in_ok-resolve_name-in-Internal
returns-in_ok-resolve_name-in-Internal c =
    let args = c.args in
    sym (refusal_internal (mode_number args.mode) args.source.now args.target.now c.if-source-gt255.false (ap mode_number c.in-Internal.is)
    ∙ c.in_ok-resolve_name-in-Internal.ensures.0)

pub returns-then-is_iri : goal.returns-then-is_iri
returns-then-is_iri c =
    let args = c.args in
    let one = ap mode_number c.in-External.is in
    sym (refusal_none (mode_number args.mode) args.source.now args.target.now c.if-source-gt255.false (λ z. omega arith) _
    c.is_iri.ensures c.if-is_iri.true)

pub returns-else-is_iri : goal.returns-else-is_iri
returns-else-is_iri c =
    let args = c.args in
    let one = ap mode_number c.in-External.is in
    sym (refusal_9 (mode_number args.mode) args.source.now args.target.now c.if-source-gt255.false (λ z. omega arith) _
    c.is_iri.ensures c.if-is_iri.false)
