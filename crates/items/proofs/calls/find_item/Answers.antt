use mathlib.Core.Path.{refl}
use native.Mathlib.Omega.{arith}
use Rattle.model.specs.Calls.{Looks, Find}
use Rattle.items.proofs.Looking.{asked_few, find_refused, find_missing, find_found}
use Rattle.output.proofs.Answering.{refused_on}
use Rattle.contract.proofs.Opening.{turned_away_lem, let_in}
use Rattle.items.proofs.calls.find_item.Goals as goal

pub returns-in_err-check_package : goal.returns-in_err-check_package
returns-in_err-check_package c = rw (refused_on _ _ c.from_residual.ensures.1)
    (turned_away_lem _ (Looks (Find _)) _ refl c.in_err-check_package.ensures)

pub returns-in_err-wanted : goal.returns-in_err-wanted
returns-in_err-wanted c = rw (refused_on _ _ c.from_residual-in_err-wanted.ensures.1)
    (find_refused _ (let_in _ c.in_ok-check_package.ensures) _ _ c.in_err-wanted.ensures)

pub item_row-r-requires : goal.item_row-r-requires
item_row-r-requires c =
    let named = c.in_ok-wanted.ensures in
    record {
      shape = ((let_in _ c.in_ok-check_package.ensures).shape, omega (arith, named.0, asked_few _ named.2));
      n_value = (named.0, named.1);
    }

pub returns-then-count-r : goal.returns-then-count-r
returns-then-count-r c =
    find_missing _ (let_in _ c.in_ok-check_package.ensures) _ c.in_ok-wanted.ensures.2 _ _
    c.item_row-r.ensures c.count.ensures.0 c.if-count-r.true

pub returns : goal.returns
returns c =
    find_found _ (let_in _ c.in_ok-check_package.ensures) _ c.in_ok-wanted.ensures.2 _ _
    c.item_row-r.ensures c.count.ensures.0 c.if-count-r.false _ c.field.ensures.2
