use Rattle.std.proofs.lemmas.Result.{err_from_is_err_and}
use Rattle.markup.proofs.Rests.{content_at}
use Rattle.markup.proofs.EntryPieces.{holds_nothing, holds_off, holds_on}
use Rattle.markup.proofs.pieces.entry_held.Goals as goal

pub returns-then-empty : goal.returns-then-empty
returns-then-empty c = holds_nothing c.requires.1 c.if-empty.true

pub end_tag-requires : goal.end_tag-requires
end_tag-requires c = ((content_at c.content.ensures c.in_ok-e.was).1, c.requires.0)

pub returns : goal.returns
returns c = holds_on _ _ c.if-empty.false c.content.ensures c.in_ok-e.was c.end_tag.ensures

pub returns-in_err-e : goal.returns-in_err-e
returns-in_err-e c =
    let p = err_from_is_err_and c.from_residual.result c.from_residual.ensures.1 in
    rw (p.1, p.2) (holds_off _ _ c.if-empty.false c.content.ensures c.in_err-e.was)
