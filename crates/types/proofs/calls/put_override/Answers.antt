use mathlib.Core.Path.{refl, sym}
use native.Mathlib.Omega.{arith}
use Rattle.model.specs.Calls.{Changes, PutOverride}
use Rattle.model.specs.Fields.{first}
use Rattle.model.proofs.Numbers.{zero_numbered}
use Rattle.contract.specs.Rows.{override_row, override_rows}
use Rattle.output.proofs.Answering.{refused_on}
use Rattle.contract.proofs.Opening.{turned_away_lem, let_in}
use Rattle.contract.proofs.RowKinds.{override_rows_lem}
use Rattle.contract.proofs.SetCalls.{put_refused, put_ran}
use Rattle.types.proofs.TypeCalls.{putting_override, override_fits}
use Rattle.types.proofs.calls.put_override.Goals as goal

pub returns-in_err-check_package : goal.returns-in_err-check_package
returns-in_err-check_package c =
    let args = c.args in
    rw (refused_on _ _ c.from_residual.ensures.1)
    (turned_away_lem _ (Changes (PutOverride args.name.now args.media.now)) _ refl c.in_err-check_package.ensures)

pub returns-in_err-check_override : goal.returns-in_err-check_override
returns-in_err-check_override c =
    let args = c.args in
    rw (refused_on _ _ c.from_residual-in_err-check_override.ensures.1)
    (put_refused override_rows override_rows_lem _ (let_in _ c.in_ok-check_package.ensures) _ _ _
    (putting_override args.name.now args.media.now) _ c.in_err-check_override.ensures)

pub put_row-requires : goal.put_row-requires
put_row-requires c =
    let fits = override_fits _ _ (sym c.in_ok-check_override.ensures) in
    record { shape = ((let_in _ c.in_ok-check_package.ensures).shape, fits.1); numbered = zero_numbered; f0_nonzero = (fits.0, omega arith) }

pub returns : goal.returns
unfolding override_row first
returns c =
    let args = c.args in
    put_ran override_rows override_rows_lem _ (let_in _ c.in_ok-check_package.ensures) _ _ _
    (putting_override args.name.now args.media.now) c.in_ok-check_override.ensures
    0 (λ S h f. refl) _ _ c.put_row.auto.pkg c.put_row.ensures
