use Rattle.std.proofs.lemmas.Result.{err_from_is_err_and}
use Rattle.markup.proofs.RootPieces.{passed_on, passed_off}
use Rattle.markup.proofs.streams.passed_over.Goals as goal

pub returns : goal.returns
returns c = passed_on c.element.ensures c.in_ok-e.was

pub returns-in_err-e : goal.returns-in_err-e
returns-in_err-e c =
    let p = err_from_is_err_and c.from_residual.result c.from_residual.ensures.1 in
    rw (p.1, p.2) (passed_off c.element.ensures c.in_err-e.was)
