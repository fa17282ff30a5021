use mathlib.Core.Path.{refl}
use Rattle.contract.proofs.SoughtKeys.{aimed_whole, placed_whole}
use Rattle.contract.proofs.entries.put_row.Goals as goal

pub fold_into-requires : goal.fold_into-requires
fold_into-requires c = (c.requires.shape.1, refl)

pub seek-place-requires : goal.seek-place-requires
seek-place-requires c = record { shape = c.requires.shape.0; aimed = aimed_whole _ _ c.fold_into.ensures _ _ _ refl }

pub put_at-requires : goal.put_at-requires
put_at-requires c = record {
  shape = (c.requires.shape.0, c.set_of-set.ensures);
  placed = placed_whole _ _ c.args.f0.now c.fold_into.ensures _ c.args.t c.args.f1.now _ refl _ _ c.seek-place.ensures;
  numbered = c.requires.numbered;
  f0_nonzero = c.requires.f0_nonzero;
}
