use mathlib.Core.Path.{refl}
use Rattle.contract.proofs.SoughtKeys.{aimed_whole, placed_whole}
use Rattle.contract.proofs.RowEntries.{drop_done, drop_missing}
use Rattle.contract.proofs.entries.drop_row.Goals as goal

pub fold_into-requires : goal.fold_into-requires
fold_into-requires c = (c.requires.1, refl)

pub seek-place-requires : goal.seek-place-requires
seek-place-requires c = record { shape = c.requires.0; aimed = aimed_whole _ _ c.fold_into.ensures _ _ _ refl }

pub remove-requires : goal.remove-requires
remove-requires c = record { shape = c.requires.0; r_bound = c.seek-place.ensures.inside c.if-place.true }

pub returns-then-place : goal.returns-then-place
returns-then-place c =
    let args = c.args in
    drop_done _ _ _ _ (placed_whole _ _ args.p.now c.fold_into.ensures args.set 0 args.id.now _ refl _ _ c.seek-place.ensures) _
    c.if-place.true c.remove.ensures

pub returns : goal.returns
returns c =
    let args = c.args in
    drop_missing _ _ _ _ (placed_whole _ _ args.p.now c.fold_into.ensures args.set 0 args.id.now _ refl _ _ c.seek-place.ensures)
    c.if-place.false
