use mathlib.Core.Path.{refl, sym, ◌∙◌}
use Rattle.model.specs.Calls.{Changes, DropOverride}
use Rattle.model.proofs.Refusals.{first_one}
use Rattle.contract.specs.Rows.{second, override_rows}
use Rattle.output.proofs.Answering.{refused_on}
use Rattle.contract.proofs.Opening.{turned_away_lem, let_in}
use Rattle.contract.proofs.RowKinds.{override_rows_lem}
use Rattle.contract.proofs.SetCalls.{drop_refused, drop_ran}
use Rattle.types.proofs.TypeCalls.{part_fits, dropping_override}
use Rattle.types.proofs.calls.drop_override.Goals as goal

pub returns-in_err-check_package : goal.returns-in_err-check_package
returns-in_err-check_package c =
    let args = c.args in
    rw (refused_on _ _ c.from_residual.ensures.1)
    (turned_away_lem _ (Changes (DropOverride args.name.now)) _ refl c.in_err-check_package.ensures)

pub returns-in_err-check_name : goal.returns-in_err-check_name
returns-in_err-check_name c =
    let args = c.args in
    rw (refused_on _ _ c.from_residual-in_err-check_name.ensures.1)
    (drop_refused override_rows override_rows_lem _ (let_in _ c.in_ok-check_package.ensures) _ _ _
    (dropping_override args.name.now) _ (c.in_err-check_name.ensures ∙ sym (first_one _)))

pub drop_row-requires : goal.drop_row-requires
drop_row-requires c = (
  (let_in _ c.in_ok-check_package.ensures).shape,
  (part_fits _ (sym c.in_ok-check_name.ensures)).1,
)

pub returns : goal.returns
unfolding second
returns c =
    let args = c.args in
    drop_ran override_rows override_rows_lem _ (let_in _ c.in_ok-check_package.ensures) _ _ _
    (dropping_override args.name.now) (c.in_ok-check_name.ensures ∙ sym (first_one _)) _ _
    c.drop_row.auto.pkg c.drop_row.ensures
