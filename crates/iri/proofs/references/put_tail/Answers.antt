use mathlib.Core.Path.{◌∙◌, sym}
use Rattle.base.proofs.Lists.{take_rest}
use Rattle.output.proofs.Sending.{sent_as, sent_more}
use Rattle.iri.proofs.Transforms.{tail_base, tail_own}
use Rattle.iri.proofs.references.put_tail.Goals as goal

pub returns-then-rq-eq0 : goal.returns-then-rq-eq0
returns-then-rq-eq0 c =
    sent_as _ _ _ _ _ _ (tail_base c.args.base.now c.args.r.now c.args.b c.args.x
    c.requires.0 c.if-rq-eq0.true)
    (sent_more _ _ _ _ _ _ _ _ c.emit-next.ensures c.emit-next.auto.out c.emit.ensures)

pub returns : goal.returns
returns c =
    sent_as _ _ _ _ _ _ (tail_own c.args.base.now c.args.r.now c.args.b c.args.x c.requires.0
    c.if-rq-eq0.false ∙ sym (take_rest c.args.r.now c.args.x.path)) c.emit-2.ensures
