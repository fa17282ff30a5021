use mathlib.Core.Path.{sym, ap}
use Rattle.targets.proofs.Judging.{internal_no, internal_is}
use mathlib.Core.Bool.{not}
use Rattle.targets.proofs.targets.is_internal.Goals as goal

pub returns-then-not-is_iri : goal.returns-then-not-is_iri
returns-then-not-is_iri c = sym (internal_no _ _ c.is_iri.ensures (ap not c.if-not-is_iri.true))

pub returns : goal.returns
returns c =
    let args = c.args in
    sym (internal_is args.t.now _ _ _ _ _ c.is_iri.ensures (ap not c.if-not-is_iri.false) c.split-x.ensures)
