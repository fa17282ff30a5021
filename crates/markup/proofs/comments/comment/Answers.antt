use Rattle.markup.specs.Marks.{comment_mark}
use Rattle.markup.proofs.Rests.{stands_within}
use Rattle.markup.proofs.Dashes.{comment_read}
use Rattle.markup.proofs.comments.comment.Goals as goal

pub dashes_at-requires : goal.dashes_at-requires
dashes_at-requires c = stands_within _ _ comment_mark c.requires.0 c.requires.1

pub returns : goal.returns
returns c =
    let e = c.dashes_at.ensures in
    comment_read _ _ _ e.0 e.1 _ c.expected.ensures
