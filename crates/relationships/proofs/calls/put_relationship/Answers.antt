use mathlib.Core.Path.{refl, sym}
use native.Mathlib.Omega.{arith}
use Rattle.model.specs.Calls.{Changes, PutRelationship}
use Rattle.output.proofs.Answering.{refused_on}
use Rattle.contract.proofs.Opening.{turned_away_lem, let_in}
use Rattle.model.specs.Fields.{first}
use Rattle.model.proofs.Numbers.{zero_numbered}
use Rattle.contract.specs.Rows.{relationship_row, relationship_rows}
use Rattle.contract.proofs.RowKinds.{relationship_rows_lem}
use Rattle.contract.proofs.SetCalls.{put_refused, put_ran}
use Rattle.relationships.proofs.RelationshipCalls.{source_fits, mode_small, putting}
use Rattle.relationships.proofs.calls.put_relationship.Goals as goal

pub returns-in_err-check_package : goal.returns-in_err-check_package
returns-in_err-check_package c =
    let args = c.args in
    rw (refused_on _ _ c.from_residual.ensures.1)
    (turned_away_lem _ (Changes (PutRelationship args.source.now args.id.now args.kind.now args.mode args.target.now)) _
    refl c.in_err-check_package.ensures)

pub returns-in_err-check_fields : goal.returns-in_err-check_fields
returns-in_err-check_fields c =
    let args = c.args in
    rw (refused_on _ _ c.from_residual-in_err-check_fields.ensures.1)
    (put_refused relationship_rows relationship_rows_lem _ (let_in _ c.in_ok-check_package.ensures) _ _ _
    (putting args.source.now args.id.now args.kind.now args.mode args.target.now) _ c.in_err-check_fields.ensures)

pub overflow_add-mode : goal.overflow_add-mode
overflow_add-mode c =
    let l = mode_small c.args.source.now c.args.id.now c.args.kind.now c.args.mode
    c.args.target.now (sym c.in_ok-check_fields.ensures) in
    omega arith

pub put_row-requires : goal.put_row-requires
put_row-requires c =
    let l = mode_small c.args.source.now c.args.id.now c.args.kind.now c.args.mode
    c.args.target.now (sym c.in_ok-check_fields.ensures) in
    let fits = source_fits c.args.source.now c.args.id.now c.args.kind.now c.args.mode
    c.args.target.now (sym c.in_ok-check_fields.ensures) in
    record { shape = ((let_in _ c.in_ok-check_package.ensures).shape, fits.1); numbered = zero_numbered; f0_nonzero = (fits.0, omega arith) }

pub returns : goal.returns
unfolding relationship_row first
returns c =
    let args = c.args in
    put_ran relationship_rows relationship_rows_lem _ (let_in _ c.in_ok-check_package.ensures) _ _ _
    (putting args.source.now args.id.now args.kind.now args.mode args.target.now)
    c.in_ok-check_fields.ensures 0 (λ S h f. refl) _ _ c.put_row.auto.pkg c.put_row.ensures
