use mathlib.Core.Path.{refl, sym}
use native.Mathlib.Omega.{arith}
use Rattle.model.specs.Calls.{Changes, PutDefault}
use Rattle.model.specs.Fields.{first}
use Rattle.model.proofs.Numbers.{zero_numbered}
use Rattle.contract.specs.Rows.{default_row, default_rows}
use Rattle.output.proofs.Answering.{refused_on}
use Rattle.contract.proofs.Opening.{turned_away_lem, let_in}
use Rattle.contract.proofs.RowKinds.{default_rows_lem}
use Rattle.contract.proofs.SetCalls.{put_refused, put_ran}
use Rattle.types.proofs.TypeCalls.{putting_default, default_fits}
use Rattle.types.proofs.calls.put_default.Goals as goal

pub returns-in_err-check_package : goal.returns-in_err-check_package
returns-in_err-check_package c =
    let args = c.args in
    rw (refused_on _ _ c.from_residual.ensures.1)
    (turned_away_lem _ (Changes (PutDefault args.extension.now args.media.now)) _ refl c.in_err-check_package.ensures)

pub returns-in_err-check_default : goal.returns-in_err-check_default
returns-in_err-check_default c =
    let args = c.args in
    rw (refused_on _ _ c.from_residual-in_err-check_default.ensures.1)
    (put_refused default_rows default_rows_lem _ (let_in _ c.in_ok-check_package.ensures) _ _ _
    (putting_default args.extension.now args.media.now) _ c.in_err-check_default.ensures)

pub put_row-requires : goal.put_row-requires
put_row-requires c =
    let fits = default_fits _ _ (sym c.in_ok-check_default.ensures) in
    record { shape = ((let_in _ c.in_ok-check_package.ensures).shape, fits.1); numbered = zero_numbered; f0_nonzero = (fits.0, omega arith) }

pub returns : goal.returns
unfolding default_row first
returns c =
    let args = c.args in
    put_ran default_rows default_rows_lem _ (let_in _ c.in_ok-check_package.ensures) _ _ _
    (putting_default args.extension.now args.media.now) c.in_ok-check_default.ensures
    0 (λ S h f. refl) _ _ c.put_row.auto.pkg c.put_row.ensures
