use Rattle.std.proofs.Common.{◌∙◌, arith, rules}
use Rattle.sheet.proofs.Accounts.{ready_read, ready_fits, ready_more, ready_through}
use Rattle.sheet.proofs.run_some.Goals as goal

pub loop-i-init : goal.loop-i-init
loop-i-init c = search (ready_read, rules)

pub slice_bounds-print-end : goal.slice_bounds-print-end
slice_bounds-print-end c =
    omega (
      arith,
      (ready_fits _ _ _ _ _ _ _ _ c.loop-i.invariant.4 c.loop-i.invariant.3 _ _ _ _ _ _ c.feed-f.ensures
          c.feed-f.auto.out).0,
    )

pub slice_bounds-print-end-in-loop-i : goal.slice_bounds-print-end-in-loop-i
slice_bounds-print-end-in-loop-i c =
    omega (
      arith,
      (ready_fits _ _ _ _ _ _ _ _ c.loop-i.invariant.4 c.loop-i.invariant.3 _ _ _ _ _ _ c.feed-f.ensures
          c.feed-f.auto.out).1,
    )

pub loop-i-smaller : goal.loop-i-smaller
loop-i-smaller c =
    let onward = c.feed-f.ensures.onward c.loop-i-test.true in
    omega (arith, onward.0, onward.1)

pub loop-i-preserved : goal.loop-i-preserved
loop-i-preserved c =
    let inv = c.loop-i.invariant in
    let line = c.feed-f.auto.line in
    let out = c.feed-f.auto.out in (
      c.feed-f.auto.pkg ∙ inv.0,
      line ∙ inv.1,
      out ∙ inv.2,
      (c.feed-f.ensures.onward c.loop-i-test.true).1,
      ready_more _ _ _ _ _ _ _ _ inv.4 inv.3 _ _ _ _ _ _ c.feed-f.ensures out line _ c.print.ensures,
    )

pub shape_of-pkg : goal.shape_of-pkg
shape_of-pkg c = c.loop-i.invariant.0

pub shape_of-line : goal.shape_of-line
shape_of-line c = c.loop-i.invariant.1

pub shape_of-out : goal.shape_of-out
shape_of-out c = c.loop-i.invariant.2

pub returns : goal.returns
returns c = search ready_through
