use mathlib.Core.Path.{ap, sym, ◌∙◌}
use Rattle.output.specs.Refusals.{number_of}
use Rattle.output.proofs.Answering.{number_some, refused_on}
use Rattle.model.specs.Fields.{default_fields}
use Rattle.model.proofs.Refusals.{first_met, first_unmet, first_one}
use Rattle.types.proofs.calls.check_default.Goals as goal

pub returns-in_err-check_extension : goal.returns-in_err-check_extension
unfolding default_fields
returns-in_err-check_extension c =
    let e = c.in_err-check_extension.ensures in
    ap number_of (refused_on _ _ c.from_residual.ensures.1) ∙ e ∙ sym (first_met _ _ (λ z. number_some _ (e ∙ z)))

pub returns : goal.returns
unfolding default_fields
returns c = c.check_type.ensures ∙ sym (first_unmet _ _ (sym c.in_ok-check_extension.ensures) ∙ first_one _)
