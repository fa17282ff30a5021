use mathlib.Core.Path.{refl}
use Rattle.contract.proofs.SoughtKeys.{aimed_whole, placed_whole}
use Rattle.contract.proofs.RowEntries.{taken_placed}
use Rattle.contract.proofs.entries.is_held.Goals as goal

pub seek-place-requires : goal.seek-place-requires
seek-place-requires c = record { shape = c.requires.0; aimed = aimed_whole _ _ c.fold_into.ensures _ _ _ refl }

pub returns : goal.returns
returns c =
    let args = c.args in
    rw (← c.set_of-set.ensures)
    (taken_placed _ _ _ _ (placed_whole _ _ args.text.now c.fold_into.ensures _ args.t args.id.now _ refl _ _ c.seek-place.ensures))
