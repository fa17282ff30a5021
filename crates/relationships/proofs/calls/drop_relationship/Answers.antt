use mathlib.Core.Path.{refl}
use Rattle.model.specs.Calls.{Changes, DropRelationship}
use Rattle.output.proofs.Answering.{refused_on}
use Rattle.contract.proofs.Opening.{turned_away_lem, let_in}
use Rattle.contract.specs.Rows.{second, relationship_rows}
use Rattle.contract.proofs.RowKinds.{relationship_rows_lem}
use Rattle.contract.proofs.SetCalls.{drop_refused, drop_ran}
use Rattle.relationships.proofs.RelationshipCalls.{key_fits, dropping}
use Rattle.relationships.proofs.calls.drop_relationship.Goals as goal

pub returns-in_err-check_package : goal.returns-in_err-check_package
returns-in_err-check_package c =
    let args = c.args in
    rw (refused_on _ _ c.from_residual.ensures.1)
    (turned_away_lem _ (Changes (DropRelationship args.source.now args.id.now)) _ refl c.in_err-check_package.ensures)

pub returns-in_err-check_key : goal.returns-in_err-check_key
returns-in_err-check_key c =
    let args = c.args in
    rw (refused_on _ _ c.from_residual-in_err-check_key.ensures.1)
    (drop_refused relationship_rows relationship_rows_lem _ (let_in _ c.in_ok-check_package.ensures) _ _ _
    (dropping args.source.now args.id.now) _ c.in_err-check_key.ensures)

pub drop_row-requires : goal.drop_row-requires
drop_row-requires c = ((let_in _ c.in_ok-check_package.ensures).shape, key_fits _ _ c.in_ok-check_key.ensures)

pub returns : goal.returns
unfolding second
returns c =
    let args = c.args in
    drop_ran relationship_rows relationship_rows_lem _ (let_in _ c.in_ok-check_package.ensures) _ _ _
    (dropping args.source.now args.id.now) c.in_ok-check_key.ensures _ _ c.drop_row.auto.pkg c.drop_row.ensures
