use mathlib.Core.Path.{sym, ◌∙◌}
use native.Mathlib.Omega.{arith, min_cases}
use Rattle.chars.proofs.Comparisons.{order_differs, order_next, order_ends}
use Rattle.chars.proofs.SameStarts.{order_skip}
use Rattle.chars.proofs.folding.compare_by.Goals as goal

pub loop-i-init : goal.loop-i-init
loop-i-init g c =
    let start = c.same_start-i.ensures in
    (start.0, start.1, order_skip g.C.Case.read _ c.args.a.now c.args.b.now start.0 start.1 start.2)

pub loop-i-preserved : goal.loop-i-preserved
loop-i-preserved g c = (
  omega (arith, min_cases, c.min-i-end.ensures, c.loop-i-test.true),
  omega (arith, min_cases, c.min-i-end.ensures, c.loop-i-test.true),
  c.loop-i.invariant.2 ∙ order_next g.C.Case.read c.args.a.now c.args.b.now _ _ (omega (arith, min_cases, c.min-i-end.ensures, c.loop-i-test.true))
      (omega (arith, min_cases, c.min-i-end.ensures, c.loop-i-test.true)) c.byte_order-o.ensures (sym c.is_ne.ensures ∙ c.if-is_ne.false),
)

pub returns-then-is_ne : goal.returns-then-is_ne
returns-then-is_ne g c =
    order_differs g.C.Case.read c.args.a.now c.args.b.now _ _ (omega (arith, min_cases, c.min-i-end.ensures, c.loop-i-test.true))
    (omega (arith, min_cases, c.min-i-end.ensures, c.loop-i-test.true)) c.byte_order-o.ensures (sym c.is_ne.ensures ∙ c.if-is_ne.true)
    ∙ sym c.loop-i.invariant.2

pub returns : goal.returns
returns g c =
    sym (c.loop-i.invariant.2 ∙ order_ends g.C.Case.read c.args.a.now c.args.b.now _ c.loop-i.invariant.0 c.loop-i.invariant.1
    (omega (arith, c.min-i-end.ensures, c.loop-i-test.false)) _ c.cmp.ensures)
