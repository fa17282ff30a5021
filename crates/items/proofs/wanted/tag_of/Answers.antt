use native.Mathlib.Omega.{arith}
use Rattle.items.proofs.Tags.{piece_fits, mark_few, tag_piece}
use Rattle.items.proofs.wanted.tag_of.Goals as goal

pub overflow_add-result : goal.overflow_add-result
overflow_add-result c = omega (arith, piece_fits _ _ _ c.requires c.in-Piece.is)

pub overflow_mul-result : goal.overflow_mul-result
overflow_mul-result c = omega (arith, piece_fits _ _ _ c.requires c.in-Piece.is)

pub overflow_add-result-in-Piece : goal.overflow_add-result-in-Piece
overflow_add-result-in-Piece c = omega (arith, piece_fits _ _ _ c.requires c.in-Piece.is, mark_few _ _ c.from.ensures)

pub returns-in-Piece : goal.returns-in-Piece
returns-in-Piece c = tag_piece _ _ _ _ c.in-Piece.is c.from.ensures
