use mathlib.Core.Path.{sym, ap, ◌∙◌}
use native.Mathlib.Omega.{arith}
use lib.ListN.{length}
use Rattle.pieces.proofs.ChangedRows.{renamed_as}
use Rattle.pieces.proofs.splitting.name_first.Goals as goal

pub slice_bounds-rename-end : goal.slice_bounds-rename-end
slice_bounds-rename-end c = c.put_suffix-s.ensures.1 ∙ ap length (sym c.put_suffix-s.ensures.0)

pub rename-requires : goal.rename-requires
rename-requires c = (omega (arith, c.piece_tag.ensures), omega (arith, slice_bounds-rename-end c, c.put_suffix-s.ensures))

pub returns : goal.returns
returns c = renamed_as _ _ _ _ _ _ _ c.piece_tag.ensures.0 c.put_suffix-s.ensures.0 c.rename.ensures
