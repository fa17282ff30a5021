use mathlib.Core.Path.{refl, ap}
use Rattle.model.specs.Calls.{Prints, ReadPart}
use Rattle.output.proofs.Answering.{passed_on}
use Rattle.contract.proofs.Opening.{turned_away_lem, let_in}
use Rattle.parts.proofs.GroupRuns.{name_fits}
use Rattle.parts.proofs.PartCalls.{read_misnamed, read_missing, read_done}
use mathlib.Core.Bool.{not}
use Rattle.parts.proofs.reading.read_part.Goals as goal

pub returns-in_err-check_package : goal.returns-in_err-check_package
returns-in_err-check_package c =
    let args = c.args in
    let a = args in
    rw (passed_on _ _ c.from_residual.ensures.1)
    (turned_away_lem _ (Prints (ReadPart a.name.now a.offset) a.out.now) _ refl c.in_err-check_package.ensures)

pub returns-then-not-is_part_name : goal.returns-then-not-is_part_name
returns-then-not-is_part_name c =
    let args = c.args in
    let a = args in
    read_misnamed _ (let_in _ c.in_ok-check_package.ensures) a.name.now a.offset a.out.now _
    c.is_part_name.ensures (ap not c.if-not-is_part_name.true)

pub fold_into-requires : goal.fold_into-requires
fold_into-requires c = (name_fits _ _ c.is_part_name.ensures (ap not c.if-not-is_part_name.false), refl)

pub find_group-group-requires : goal.find_group-group-requires
find_group-group-requires c =
    record { shape = (let_in _ c.in_ok-check_package.ensures).shape; holds_folding = c.fold_into.ensures }

pub returns-then-not-makes_part : goal.returns-then-not-makes_part
returns-then-not-makes_part c =
    let args = c.args in
    let a = args in
    read_missing _ (let_in _ c.in_ok-check_package.ensures) a.name.now a.offset a.out.now _
    c.is_part_name.ensures (ap not c.if-not-is_part_name.false) _ _ c.find_group-group.ensures _
    c.makes_part.ensures (ap not c.if-not-makes_part.true)

pub returns : goal.returns
returns c =
    let args = c.args in
    let a = args in
    read_done _ (let_in _ c.in_ok-check_package.ensures) a.name.now a.offset a.out.now _
    c.is_part_name.ensures (ap not c.if-not-is_part_name.false) _ _ c.find_group-group.ensures _
    c.makes_part.ensures (ap not c.if-not-makes_part.false) _ _ c.copy_content.ensures
