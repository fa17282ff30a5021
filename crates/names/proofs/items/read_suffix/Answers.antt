use mathlib.Core.Path.{sym, ◌∙◌}
use Rattle.names.proofs.Suffixes.{suffix_le, suffix_none, suffix_unended, suffix_unnumbered, suffix_piece}
use Rattle.names.proofs.items.read_suffix.Goals as goal

pub returns-then-e-eq0 : goal.returns-then-e-eq0
returns-then-e-eq0 c = sym (suffix_none _ _ c.find-e.ensures c.if-e-eq0.true)

pub slice_bounds-is_last_piece-count : goal.slice_bounds-is_last_piece-count
slice_bounds-is_last_piece-count c = suffix_le _ _ c.find-e.ensures

pub slice_bounds-is_last_piece-start : goal.slice_bounds-is_last_piece-start
slice_bounds-is_last_piece-start c = suffix_le _ _ c.find-e.ensures

pub slice_bounds-is_piece-count : goal.slice_bounds-is_piece-count
slice_bounds-is_piece-count c = suffix_le _ _ c.find-e.ensures

pub slice_bounds-is_piece-start : goal.slice_bounds-is_piece-start
slice_bounds-is_piece-start c = suffix_le _ _ c.find-e.ensures

pub slice_bounds-read_numeral-end : goal.slice_bounds-read_numeral-end
slice_bounds-read_numeral-end c = suffix_le _ _ c.find-e.ensures

pub returns-in-Some : goal.returns-in-Some
returns-in-Some c = sym (suffix_piece _ _ c.find-e.ensures _ _ c.is_last_piece-last.ensures c.is_piece.ensures c.if-is_piece-last.true _
    (sym c.in-Some.is ∙ c.read_numeral.ensures))

pub returns-in_default : goal.returns-in_default
returns-in_default c = sym (suffix_unnumbered _ _ c.find-e.ensures _ _ c.is_last_piece-last.ensures c.is_piece.ensures (sym c.in_default.is ∙ c.read_numeral.ensures))

pub returns-else-is_piece-last : goal.returns-else-is_piece-last
returns-else-is_piece-last c =
    sym (suffix_unended _ _ c.find-e.ensures _ _ c.is_last_piece-last.ensures c.is_piece.ensures c.if-is_piece-last.false)
