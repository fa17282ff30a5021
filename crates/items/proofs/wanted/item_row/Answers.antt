use mathlib.Core.Path.{refl}
use native.Mathlib.Omega.{arith}
use borrow.Author.Tests.{not-true, not-false}
use Rattle.contract.proofs.SoughtKeys.{aimed_whole, placed_whole}
use Rattle.items.proofs.Naming.{prefix_slice}
use Rattle.items.proofs.Locating.{located, located_other, located_none}
use Rattle.items.proofs.wanted.item_row.Goals as goal

pub slice_bounds-fold_into-end-2 : goal.slice_bounds-fold_into-end-2
slice_bounds-fold_into-end-2 c = prefix_slice _ _ c.requires.n_value.0

pub fold_into-requires : goal.fold_into-requires
fold_into-requires c = (omega (arith, c.requires.shape.1, prefix_slice _ _ c.requires.n_value.0), refl)

pub seek-place-requires : goal.seek-place-requires
seek-place-requires c = record { shape = c.requires.shape.0; aimed = aimed_whole _ _ c.fold_into.ensures _ _ _ (prefix_slice _ _ c.requires.n_value.0) }

pub returns-then-not-place : goal.returns-then-not-place
returns-then-not-place c =
    located_none _ _ _ _ c.requires.n_value.0 c.requires.n_value.1 _ _ c.count-m.ensures.0 _
    (placed_whole _ _ _ c.fold_into.ensures 0 _ _ _ (prefix_slice _ _ c.requires.n_value.0) _ _ c.seek-place.ensures)
    (not-true _ c.if-not-place.true)

pub returns-then-tag-t : goal.returns-then-tag-t
returns-then-tag-t c =
    located _ _ _ _ c.requires.n_value.0 c.requires.n_value.1 _ _ c.count-m.ensures.0 _
    (placed_whole _ _ _ c.fold_into.ensures 0 _ _ _ (prefix_slice _ _ c.requires.n_value.0) _ _ c.seek-place.ensures) _
    c.tag.ensures.1 (not-false _ c.if-not-place.false) c.if-tag-t.true

pub returns : goal.returns
returns c =
    located_other _ _ _ _ c.requires.n_value.0 c.requires.n_value.1 _ _ c.count-m.ensures.0 _
    (placed_whole _ _ _ c.fold_into.ensures 0 _ _ _ (prefix_slice _ _ c.requires.n_value.0) _ _ c.seek-place.ensures) _
    c.tag.ensures.1 (not-false _ c.if-not-place.false) c.if-tag-t.false
