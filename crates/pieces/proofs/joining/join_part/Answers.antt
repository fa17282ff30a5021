use mathlib.Core.Path.{refl, ap}
use native.Mathlib.Omega.{arith}
use borrow.Author.Rules.{rules}
use Rattle.model.specs.Calls.{Changes, JoinPart}
use Rattle.output.proofs.Answering.{refused_on}
use Rattle.contract.proofs.Opening.{turned_away_lem, let_in}
use Rattle.parts.proofs.GroupRuns.{name_fits}
use Rattle.pieces.proofs.JoinCalls.{join_misnamed, join_missing, join_whole, join_done}
use mathlib.Core.Bool.{not}
use Rattle.pieces.proofs.joining.join_part.Goals as goal

pub returns-in_err-check_package : goal.returns-in_err-check_package
returns-in_err-check_package c =
    let a = c.args in
    rw (refused_on _ _ c.from_residual.ensures.1)
    (turned_away_lem _ (Changes (JoinPart a.name.now)) _ refl c.in_err-check_package.ensures)

pub returns-then-not-is_part_name : goal.returns-then-not-is_part_name
returns-then-not-is_part_name c =
    let a = c.args in
    join_misnamed _ (let_in _ c.in_ok-check_package.ensures) a.name.now _ c.is_part_name.ensures (ap not c.if-not-is_part_name.true)

pub fold_into-requires : goal.fold_into-requires
fold_into-requires c = (name_fits _ _ c.is_part_name.ensures (ap not c.if-not-is_part_name.false), refl)

pub find_group-group-requires : goal.find_group-group-requires
find_group-group-requires c = record { shape = (let_in _ c.in_ok-check_package.ensures).shape; holds_folding = c.fold_into.ensures }

pub returns-then-not-makes_part : goal.returns-then-not-makes_part
returns-then-not-makes_part c =
    let a = c.args in
    join_missing _ (let_in _ c.in_ok-check_package.ensures) a.name.now _ c.is_part_name.ensures
    (ap not c.if-not-is_part_name.false) _ _ c.find_group-group.ensures _ c.makes_part.ensures (ap not c.if-not-makes_part.true)

pub returns-then-tag-eq0 : goal.returns-then-tag-eq0
returns-then-tag-eq0 c =
    let a = c.args in
    join_whole _ (let_in _ c.in_ok-check_package.ensures) a.name.now _ c.is_part_name.ensures
    (ap not c.if-not-is_part_name.false) _ _ c.find_group-group.ensures _ c.makes_part.ensures
    (ap not c.if-not-makes_part.false) _ c.tag.ensures.1 c.if-tag-eq0.true

pub merge-requires : goal.merge-requires
merge-requires c = search
    rules

pub returns : goal.returns
returns c =
    let a = c.args in
    join_done _ (let_in _ c.in_ok-check_package.ensures) a.name.now _ c.is_part_name.ensures
    (ap not c.if-not-is_part_name.false) _ _ c.find_group-group.ensures _ c.makes_part.ensures
    (ap not c.if-not-makes_part.false) _ c.tag.ensures.1 c.if-tag-eq0.false _ (omega arith) c.merge.ensures
