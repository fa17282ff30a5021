use Rattle.std.proofs.lemmas.Result.{err_from_is_err_and}
use Rattle.markup.proofs.Roots.{end_off, end_none, end_more}
use Rattle.markup.proofs.streams.let_end.Goals as goal

pub returns-in_err-t : goal.returns-in_err-t
returns-in_err-t c =
    let p = err_from_is_err_and c.from_residual.result c.from_residual.ensures.1 in
    rw (p.1, p.2) (end_off c.between.ensures c.in_err-t.was)

pub returns-then-t-s : goal.returns-then-t-s
returns-then-t-s c = end_none c.between.ensures c.in_ok-t.was c.if-t-s.true

pub returns : goal.returns
returns c = end_more c.between.ensures c.in_ok-t.was c.if-t-s.false
