use mathlib.Core.Path.{refl, ap}
use native.Mathlib.Omega.{arith}
use Rattle.model.specs.Calls.{CutPart}
use Rattle.output.proofs.Answering.{refused_on}
use Rattle.contract.proofs.Opening.{turned_away_lem, let_in}
use Rattle.parts.proofs.GroupRuns.{name_fits}
use Rattle.pieces.proofs.CutCalls.{cut_misnamed, cut_stopped, cut_made_lem}
use mathlib.Core.Bool.{not}
use Rattle.pieces.proofs.cutting.cut_part.Goals as goal

pub returns-in_err-check_package : goal.returns-in_err-check_package
returns-in_err-check_package c =
    let a = c.args in
    rw (refused_on _ _ c.from_residual.ensures.1)
    (turned_away_lem _ (CutPart a.name.now a.n) _ refl c.in_err-check_package.ensures)

pub returns-then-not-is_part_name : goal.returns-then-not-is_part_name
returns-then-not-is_part_name c = cut_misnamed _ (let_in _ c.in_ok-check_package.ensures) _ _ _ c.is_part_name.ensures (ap not c.if-not-is_part_name.true)

pub fold_into-requires : goal.fold_into-requires
fold_into-requires c = (name_fits _ _ c.is_part_name.ensures (ap not c.if-not-is_part_name.false), refl)

pub find_group-group-requires : goal.find_group-group-requires
find_group-group-requires c = record { shape = (let_in _ c.in_ok-check_package.ensures).shape; holds_folding = c.fold_into.ensures }

pub check_cut-requires : goal.check_cut-requires
check_cut-requires c = ((let_in _ c.in_ok-check_package.ensures).shape, c.find_group-group.ensures.few)

pub returns-in_err-check_cut : goal.returns-in_err-check_cut
returns-in_err-check_cut c =
    rw (refused_on _ _ c.from_residual-in_err-check_cut.ensures.1)
    (cut_stopped _ (let_in _ c.in_ok-check_package.ensures) _ _ _ c.is_part_name.ensures (ap not c.if-not-is_part_name.false) _ _
    c.find_group-group.ensures _ c.in_err-check_cut.ensures)

pub cut_row-requires : goal.cut_row-requires
cut_row-requires c = c.in_ok-check_cut.ensures.range refl

pub returns : goal.returns
returns c =
    cut_made_lem _ (let_in _ c.in_ok-check_package.ensures) _ _ _ c.is_part_name.ensures (ap not c.if-not-is_part_name.false) _ _
    c.find_group-group.ensures c.in_ok-check_cut.ensures _ _ (omega arith) c.cut_row.ensures
