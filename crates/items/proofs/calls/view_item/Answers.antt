use native.Mathlib.Omega.{arith}
use Rattle.items.proofs.Looking.{asked_few, view_turned, view_open, view_refused, view_missing, view_found}
use Rattle.items.proofs.calls.view_item.Goals as goal

pub returns-then-is_err : goal.returns-then-is_err
returns-then-is_err c = view_turned _ _ c.check_package.ensures _ c.is_err.ensures.value c.if-is_err.true _

pub returns-in_default : goal.returns-in_default
returns-in_default c = view_refused _ (view_open _ _ c.check_package.ensures _ c.is_err.ensures.value c.if-is_err.false) _ _ c.in_default.ensures

pub item_row-r-requires : goal.item_row-r-requires
item_row-r-requires c =
    let named = c.in-Ok.ensures in
    record {
      shape = ((view_open _ _ c.check_package.ensures _ c.is_err.ensures.value c.if-is_err.false).shape, omega (arith, named.0, asked_few _ named.2));
      n_value = (named.0, named.1);
    }

pub returns-then-r-count : goal.returns-then-r-count
returns-then-r-count c =
    view_found _ (view_open _ _ c.check_package.ensures _ c.is_err.ensures.value c.if-is_err.false) _ c.in-Ok.ensures.2 _ _
    c.item_row-r.ensures c.count.ensures.0 c.if-r-count.true _ c.field.ensures.2

pub returns : goal.returns
returns c =
    view_missing _ (view_open _ _ c.check_package.ensures _ c.is_err.ensures.value c.if-is_err.false) _ c.in-Ok.ensures.2 _ _
    c.item_row-r.ensures c.count.ensures.0 c.if-r-count.false
