use Rattle.std.proofs.Common.{Ok, ap, ◌∙◌}
use Rattle.std.proofs.lemmas.Result.{err_from_is_err_and}
use Rattle.markup.proofs.EntryPieces.{entry_end_lem, entry_fail, tag_at_lem, entry_next}
use Rattle.markup.proofs.pieces.next_entry.Goals as goal

pub entry_piece-requires : goal.entry_piece-requires
entry_piece-requires c = (tag_at_lem c.requires c.next_of.ensures (c.in_ok-t.was ∙ ap Ok c.in-Tag.is)).1

pub returns-in_err-t : goal.returns-in_err-t
returns-in_err-t c =
    let p = err_from_is_err_and c.from_residual.result c.from_residual.ensures.1 in
    rw (p.1, p.2) (entry_fail c.requires c.next_of.ensures c.in_err-t.was)

pub returns-in-Tag : goal.returns-in-Tag
returns-in-Tag c = entry_next c.requires c.next_of.ensures (c.in_ok-t.was ∙ ap Ok c.in-Tag.is) c.entry_piece.ensures

pub returns-in-End : goal.returns-in-End
returns-in-End c = entry_end_lem c.requires c.next_of.ensures (c.in_ok-t.was ∙ ap Ok c.in-End.is)
