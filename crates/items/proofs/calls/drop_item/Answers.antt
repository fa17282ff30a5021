use mathlib.Core.Path.{refl}
use Rattle.model.specs.Calls.{Changes, DropItem}
use native.Mathlib.Omega.{arith}
use Rattle.items.proofs.Changing.{named_few, drop_refused, drop_missing, drop_done}
use Rattle.output.proofs.Answering.{refused_on}
use Rattle.contract.proofs.Opening.{turned_away_lem, let_in}
use Rattle.items.proofs.calls.drop_item.Goals as goal

pub returns-in_err-check_package : goal.returns-in_err-check_package
returns-in_err-check_package c = rw (refused_on _ _ c.from_residual.ensures.1)
    (turned_away_lem _ (Changes (DropItem _)) _ refl c.in_err-check_package.ensures)

pub returns-in_err-wanted : goal.returns-in_err-wanted
returns-in_err-wanted c = rw (refused_on _ _ c.from_residual-in_err-wanted.ensures.1)
    (drop_refused _ (let_in _ c.in_ok-check_package.ensures) _ _ c.in_err-wanted.ensures)

pub item_row-r-requires : goal.item_row-r-requires
item_row-r-requires c =
    let named = c.in_ok-wanted.ensures in
    record { shape = ((let_in _ c.in_ok-check_package.ensures).shape, named_few _ _ _ named); n_value = (named.0, named.1) }

pub remove-requires : goal.remove-requires
remove-requires c =
    record {
      shape = (let_in _ c.in_ok-check_package.ensures).shape;
      r_bound = omega
          (arith, c.if-r-count.true, c.count.ensures.0);
    }

pub returns-then-r-count : goal.returns-then-r-count
returns-then-r-count c =
    drop_done _ (let_in _ c.in_ok-check_package.ensures) _ _ _ c.in_ok-wanted.ensures _ _
    c.item_row-r.ensures c.count.ensures.0 _ c.remove.auto.pkg c.if-r-count.true c.remove.ensures

pub returns : goal.returns
returns c =
    drop_missing _ (let_in _ c.in_ok-check_package.ensures) _ _ _ c.in_ok-wanted.ensures _ _
    c.item_row-r.ensures c.count.ensures.0 c.if-r-count.false
