use mathlib.Core.Path.{sym, ◌∙◌, ap}
use Rattle.output.specs.Refusals.{number_of}
use Rattle.output.proofs.Answering.{refused_on}
use Rattle.relationships.proofs.RelationshipCalls.{fields_source}
use Rattle.relationships.proofs.calls.check_fields.Goals as goal

pub returns-in_err-check_source : goal.returns-in_err-check_source
returns-in_err-check_source c =
    let args = c.args in
    ap number_of (refused_on _ _ c.from_residual.ensures.1)
    ∙ fields_source args.source.now args.id.now args.kind.now args.mode args.target.now _ c.in_err-check_source.ensures

pub check_own-requires : goal.check_own-requires
check_own-requires c = sym c.in_ok-check_source.ensures
