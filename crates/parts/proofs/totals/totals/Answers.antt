use native.Mathlib.Omega.{arith}
use mathlib.Core.Path.{refl}
use Rattle.model.specs.Calls.{Looks, Totals}
use Rattle.output.proofs.Answering.{refused_on}
use Rattle.contract.proofs.Opening.{turned_away_lem, let_in}
use Rattle.parts.proofs.PartCalls.{totals_done}
use Rattle.parts.proofs.totals.totals.Goals as goal

pub returns-in_err-check_package : goal.returns-in_err-check_package
returns-in_err-check_package c = rw (refused_on _ _ c.from_residual.ensures.1)
    (turned_away_lem _ (Looks Totals) _ refl c.in_err-check_package.ensures)

pub item_count-n-requires : goal.item_count-n-requires
item_count-n-requires c = (let_in _ c.in_ok-check_package.ensures).shape

pub walk-all-requires : goal.walk-all-requires
walk-all-requires c =
    let shape = (let_in _ c.in_ok-check_package.ensures).shape in
    (shape, omega (arith, c.item_count-n.ensures.low, shape.few))

pub returns : goal.returns
returns c =
    totals_done _ (let_in _ c.in_ok-check_package.ensures) _ c.item_count-n.ensures _ _ c.walk-all.ensures
    _ c.used.ensures.0
