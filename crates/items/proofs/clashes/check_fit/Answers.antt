use Rattle.items.proofs.Naming.{prefix_slice}
use Rattle.items.proofs.Clashing.{misfit_12, misfit_12_before, misfit_11, misfit_0, misfit_apart}
use Rattle.items.proofs.clashes.check_fit.Goals as goal

pub slice_bounds-is_opposed-end : goal.slice_bounds-is_opposed-end
slice_bounds-is_opposed-end c = prefix_slice _ _ c.requires.n_value.0

pub returns-then-is_opposed : goal.returns-then-is_opposed
returns-then-is_opposed c =
    misfit_12 _ _ _ _ c.requires.n_value.0 c.requires.n_value.1 _ _ c.requires.bounded c.requires.counted _
    c.is_opposed.ensures c.if-is_opposed.true

pub slice_bounds-is_opposed_before-end : goal.slice_bounds-is_opposed_before-end
slice_bounds-is_opposed_before-end c = prefix_slice _ _ c.requires.n_value.0

pub returns-then-is_opposed_before : goal.returns-then-is_opposed_before
returns-then-is_opposed_before c =
    misfit_12_before _ _ _ _ c.requires.n_value.0 c.requires.n_value.1 _ _ c.requires.bounded c.requires.counted _
    c.is_opposed.ensures _ c.is_opposed_before.ensures c.if-is_opposed_before.true

pub slice_bounds-is_parted-end : goal.slice_bounds-is_parted-end
slice_bounds-is_parted-end c = prefix_slice _ _ c.requires.n_value.0

pub slice_bounds-is_extended-end : goal.slice_bounds-is_extended-end
slice_bounds-is_extended-end c = prefix_slice _ _ c.requires.n_value.0

pub slice_bounds-has_grown-end : goal.slice_bounds-has_grown-end
slice_bounds-has_grown-end c = prefix_slice _ _ c.requires.n_value.0

pub returns-then-has_grown : goal.returns-then-has_grown
returns-then-has_grown c =
    misfit_11 _ _ _ _ c.requires.n_value.0 c.requires.n_value.1 _ _ c.requires.bounded c.requires.counted _
    c.is_opposed.ensures _ c.is_opposed_before.ensures c.if-is_opposed.false
    c.if-is_opposed_before.false _ c.has_grown.ensures c.if-has_grown.true

pub returns-else-has_grown : goal.returns-else-has_grown
returns-else-has_grown c =
    misfit_0 _ _ _ _ c.requires.n_value.0 c.requires.n_value.1 _ _ c.requires.bounded c.requires.counted _
    c.is_opposed.ensures _ c.is_opposed_before.ensures c.if-is_opposed.false
    c.if-is_opposed_before.false _ c.has_grown.ensures c.if-has_grown.false

pub returns-else-is_parted-is_extended : goal.returns-else-is_parted-is_extended
returns-else-is_parted-is_extended c =
    misfit_apart _ _ _ _ c.requires.n_value.0 c.requires.n_value.1 _ _ c.requires.bounded c.requires.counted _
    c.is_opposed.ensures _ c.is_opposed_before.ensures c.if-is_opposed.false
    c.if-is_opposed_before.false _ c.is_parted.ensures _ c.is_extended.ensures c.if-is_parted-is_extended.false
