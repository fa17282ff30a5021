use mathlib.Core.Path.{◌∙◌}
use native.Mathlib.Omega.{arith}
use Rattle.output.proofs.Sending.{sent_as, sent_more}
use Rattle.iri.proofs.Transforms.{head_few, resolve_append}
use Rattle.iri.proofs.references.put_target.Goals as goal

pub emit-e-requires : goal.emit-e-requires
emit-e-requires c = (
  omega (
    arith,
    c.put_head-a.ensures.next_is,
    head_few c.args.base.now c.args.r.now c.args.b
        c.args.x c.requires.0,
  ),
  omega (arith, c.requires.2),
)

pub put_tail-requires : goal.put_tail-requires
put_tail-requires c = (
  c.requires.0,
  omega (
    arith,
    c.emit-e.ensures.next_is,
    c.put_head-a.ensures.next_is,
    head_few
        c.args.base.now c.args.r.now c.args.b c.args.x c.requires.0,
    c.requires.2,
  ),
)

pub returns : goal.returns
returns c =
    sent_as _ _ _ _ _ _ (resolve_append c.args.base.now c.args.r.now c.args.path.now c.requires.1)
    (sent_more _ _ _ _ _ _ _ _ (sent_more _ _ _ _ _ _ _ _ c.put_head-a.ensures c.put_head-a.auto.out
    c.emit-e.ensures) (c.emit-e.auto.out ∙ c.put_head-a.auto.out) c.put_tail.ensures)
