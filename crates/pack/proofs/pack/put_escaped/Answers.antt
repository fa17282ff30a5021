use mathlib.Core.Path.{refl, ◌∙◌}
use native.Mathlib.Omega.{arith}
use lib.ListN.{get_or}
use borrow.Author.Rules.{rules}
use Rattle.pack.specs.Pack.{escaped}
use Rattle.pack.proofs.Escapes.{escape_few, escaped_more}
use Rattle.output.proofs.Sending.{sent_none, sent_more}
use Rattle.pack.proofs.pack.put_escaped.Goals as goal

pub loop-b-init : goal.loop-b-init
unfolding escaped
loop-b-init c = (refl, search rules, sent_none _ _)

pub loop-b-preserved : goal.loop-b-preserved
loop-b-preserved c =
    let w = c.loop-b in
    let h = c.args.s.now in
    let s = c.put_escape-at in (
      s.auto.out ∙ w.invariant.0,
      omega (arith, s.ensures.next_is, escape_few (get_or h w.b-index 0)),
      rw (escaped_more h w.b-index c.loop-b-test.true)
          (sent_more _ w.out _ _ _ _ w.at _ w.invariant.2 w.invariant.0 s.ensures),
    )
