use mathlib.Core.Path.{refl}
use mathlib.Core.List.{[]}
use native.Mathlib.Omega.{arith}
use Rattle.model.specs.Calls.{Changes, PutItem}
use Rattle.contract.specs.Rows.{second}
use Rattle.output.proofs.Answering.{refused_on}
use Rattle.contract.proofs.Opening.{turned_away_lem, let_in}
use Rattle.contract.proofs.SoughtKeys.{aimed_whole, placed_whole}
use Rattle.items.proofs.Naming.{prefix_slice, prefix_in_lem}
use Rattle.items.proofs.Changing.{named_few, named_some, named_tag, named_set, put_refused, put_ran}
use Rattle.items.proofs.calls.put_item.Goals as goal

pub returns-in_err-check_package : goal.returns-in_err-check_package
returns-in_err-check_package c = rw (refused_on _ _ c.from_residual.ensures.1)
    (turned_away_lem _ (Changes (PutItem _ _)) _ refl c.in_err-check_package.ensures)

pub returns-in_err-wanted : goal.returns-in_err-wanted
returns-in_err-wanted c = rw (refused_on _ _ c.from_residual-in_err-wanted.ensures.1)
    (put_refused _ (let_in _ c.in_ok-check_package.ensures) _ _ c.in_err-wanted.ensures c.args.bytes.now)

pub slice_bounds-fold_into-end-2 : goal.slice_bounds-fold_into-end-2
slice_bounds-fold_into-end-2 c = prefix_slice _ _ c.in_ok-wanted.ensures.0

pub fold_into-requires : goal.fold_into-requires
fold_into-requires c =
    let named = c.in_ok-wanted.ensures in
    (omega (arith, named_few _ _ _ named, prefix_slice _ _ named.0), refl)

pub seek-place-requires : goal.seek-place-requires
seek-place-requires c =
    record {
      shape = (let_in _ c.in_ok-check_package.ensures).shape;
      aimed = aimed_whole _ _ c.fold_into.ensures _ _ _ (prefix_slice _ _ c.in_ok-wanted.ensures.0);
    }

pub item_count-requires : goal.item_count-requires
item_count-requires c = (let_in _ c.in_ok-check_package.ensures).shape

pub check_fit-own-requires : goal.check_fit-own-requires
check_fit-own-requires c =
    let named = c.in_ok-wanted.ensures in
    record {
      n_value = (named.0, named.1);
      holds_folding = c.fold_into.ensures;
      bounded = (placed_whole _ _ _ c.fold_into.ensures 0 _ _ _ (prefix_slice _ _ named.0) _ _ c.seek-place.ensures).bounded;
      counted = c.item_count.ensures;
    }

pub slice_bounds-put_at-end : goal.slice_bounds-put_at-end
slice_bounds-put_at-end c = prefix_slice _ _ c.in_ok-wanted.ensures.0

pub slice_bounds-put_at-count : goal.slice_bounds-put_at-count
slice_bounds-put_at-count c = prefix_in_lem _ _ c.in_ok-wanted.ensures.0

pub slice_bounds-put_at-start : goal.slice_bounds-put_at-start
slice_bounds-put_at-start c = prefix_in_lem _ _ c.in_ok-wanted.ensures.0

pub put_at-requires : goal.put_at-requires
unfolding second
put_at-requires c =
    let named = c.in_ok-wanted.ensures in
    record {
      shape = ((let_in _ c.in_ok-check_package.ensures).shape, named_set _ _ _ named);
      placed = placed_whole _ _ _ c.fold_into.ensures 0 _ [] _ (prefix_slice _ _ named.0) _ _ c.seek-place.ensures;
      numbered = c.check_fit-own.ensures.numbered;
      f0_nonzero = (named_some _ _ _ named, named_tag _ _ _ named);
    }

pub returns : goal.returns
returns c =
    put_ran _ (let_in _ c.in_ok-check_package.ensures) _ _ _ c.in_ok-wanted.ensures
    c.args.bytes.now _ c.check_fit-own.ensures _ _ c.put_at.auto.pkg c.put_at.ensures
