use Rattle.std.proofs.Common.{not, ap, ◌∙◌, arith}
use Rattle.std.proofs.lemmas.Result.{err_from_is_err_and}
use Rattle.markup.proofs.Rests.{tag_reach}
use Rattle.markup.proofs.EntryPieces.{entry_tagless, entry_none, entry_off, entry_on}
use Rattle.markup.proofs.pieces.entry_piece.Goals as goal

pub returns-in_default : goal.returns-in_default
returns-in_default c = entry_tagless _ c.start_tag.ensures c.in_default.is

pub entry_of-requires : goal.entry_of-requires
entry_of-requires c =
    let v = tag_reach c.start_tag.ensures c.in-Some.is in
    (omega (arith, v), omega (arith, v))

pub returns-then-is_none : goal.returns-then-is_none
returns-then-is_none c =
    entry_none _ c.start_tag.ensures c.in-Some.is c.entry_of.ensures
    (c.is_none.ensures ∙ ap not c.if-is_none.true)

pub entry_held-requires : goal.entry_held-requires
entry_held-requires c =
    let v = tag_reach c.start_tag.ensures c.in-Some.is in
    ((omega (arith, v), omega (arith, v)), v.2)

pub returns : goal.returns
returns c =
    entry_on _ c.start_tag.ensures c.in-Some.is c.entry_of.ensures
    (c.is_none.ensures ∙ ap not c.if-is_none.false) c.entry_held.ensures c.in_ok-next.was

pub returns-in_err-next : goal.returns-in_err-next
returns-in_err-next c =
    let p = err_from_is_err_and c.from_residual.result c.from_residual.ensures.1 in
    rw (p.1, p.2)
    (entry_off _ c.start_tag.ensures c.in-Some.is c.entry_of.ensures
    (c.is_none.ensures ∙ ap not c.if-is_none.false) c.entry_held.ensures c.in_err-next.was)
