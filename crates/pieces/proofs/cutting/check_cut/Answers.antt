use mathlib.Core.Path.{refl, ap}
use borrow.Author.Tests.{le-leb, lt-leb}
use Rattle.pieces.proofs.CutCalls.{cut_no_part, cut_in_pieces, cut_uncounted, cut_full, cut_fits}
use mathlib.Core.Bool.{not}
use Rattle.pieces.proofs.cutting.check_cut.Goals as goal

pub returns-then-not-makes_part : goal.returns-then-not-makes_part
returns-then-not-makes_part c = cut_no_part _ _ _ _ _ c.makes_part.ensures (ap not c.if-not-makes_part.true)

pub returns-then-tag-ne0 : goal.returns-then-tag-ne0
returns-then-tag-ne0 c = cut_in_pieces _ _ _ _ _ c.makes_part.ensures (ap not c.if-not-makes_part.false) _ c.tag.ensures.1 c.if-tag-ne0.true

pub returns-then-n-lt1 : goal.returns-then-n-lt1
returns-then-n-lt1 c =
    let n = c.args.n in
    cut_uncounted _ _ _ _ _ c.makes_part.ensures (ap not c.if-not-makes_part.false) _ c.tag.ensures.1 c.if-tag-ne0.false (rw (lt-leb 1 n c.if-n-lt1.true) refl)

pub returns-then-n-gt-PIECE_LIMIT : goal.returns-then-n-gt-PIECE_LIMIT
returns-then-n-gt-PIECE_LIMIT c =
    let n = c.args.n in
    cut_uncounted _ _ _ _ _ c.makes_part.ensures (ap not c.if-not-makes_part.false) _ c.tag.ensures.1 c.if-tag-ne0.false
    (rw (le-leb 1 n c.if-n-lt1.false, lt-leb n 256 c.if-n-gt-PIECE_LIMIT.true) refl)

pub has_cut_room-requires : goal.has_cut_room-requires
has_cut_room-requires c = (c.requires.0, c.field.ensures.0, c.if-n-lt1.false, c.if-n-gt-PIECE_LIMIT.false)

pub returns-then-has_cut_room : goal.returns-then-has_cut_room
returns-then-has_cut_room c =
    cut_fits _ _ _ _ _ c.makes_part.ensures (ap not c.if-not-makes_part.false) _ c.tag.ensures.1 c.if-tag-ne0.false
    c.if-n-lt1.false c.if-n-gt-PIECE_LIMIT.false _ c.field.ensures.2 _ c.has_cut_room.ensures c.if-has_cut_room.true

pub returns : goal.returns
returns c =
    cut_full _ _ _ _ _ c.makes_part.ensures (ap not c.if-not-makes_part.false) _ c.tag.ensures.1 c.if-tag-ne0.false
    c.if-n-lt1.false c.if-n-gt-PIECE_LIMIT.false _ c.field.ensures.2 _ c.has_cut_room.ensures c.if-has_cut_room.false
