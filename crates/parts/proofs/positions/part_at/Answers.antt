use mathlib.Core.Path.{refl}
use native.Mathlib.Omega.{arith}
use Rattle.model.specs.Calls.{Prints, PartAt}
use Rattle.output.proofs.Answering.{passed_on}
use Rattle.contract.proofs.Opening.{turned_away_lem, let_in}
use Rattle.parts.proofs.PartCalls.{position_missing, position_written}
use Rattle.parts.proofs.positions.part_at.Goals as goal

pub returns-in_err-check_package : goal.returns-in_err-check_package
returns-in_err-check_package c =
    let args = c.args in
    let a = args in
    rw (passed_on _ _ c.from_residual.ensures.1)
    (turned_away_lem _ (Prints (PartAt a.position) a.out.now) _ refl c.in_err-check_package.ensures)

pub item_count-n-requires : goal.item_count-n-requires
item_count-n-requires c = (let_in _ c.in_ok-check_package.ensures).shape

pub walk-stop-requires : goal.walk-stop-requires
walk-stop-requires c =
    let shape = (let_in _ c.in_ok-check_package.ensures).shape in
    (shape, omega (arith, c.item_count-n.ensures.low, shape.few))

pub returns-then-n-row : goal.returns-then-n-row
returns-then-n-row c =
    let args = c.args in
    position_missing _ (let_in _ c.in_ok-check_package.ensures) _ c.item_count-n.ensures _ _ _
    c.walk-stop.ensures args.out.now c.if-n-row.true

pub returns : goal.returns
returns c =
    let args = c.args in
    position_written _ (let_in _ c.in_ok-check_package.ensures) _ c.item_count-n.ensures _ _ _
    c.walk-stop.ensures args.out.now c.if-n-row.false _ c.field.ensures.2 _ c.put_text.ensures
