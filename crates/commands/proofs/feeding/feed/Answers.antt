use mathlib.Core.Path.{refl, ◌∙◌}
use native.Mathlib.Omega.{arith}
use Rattle.commands.proofs.FedLines.{feeding_begin, out_length, feeding_more, feed_stop, feed_end}
use Rattle.commands.proofs.feeding.feed.Goals as goal

pub loop-i-init : goal.loop-i-init
loop-i-init c = (refl, refl, refl, feeding_begin _ _ _ _ _ _)

pub slice_bounds-feed_line-count : goal.slice_bounds-feed_line-count
slice_bounds-feed_line-count c = omega (arith, c.loop-i.invariant.2, c.loop-i.invariant.3.fits)

pub slice_bounds-feed_line-start : goal.slice_bounds-feed_line-start
slice_bounds-feed_line-start c = omega (arith, c.loop-i.invariant.2, c.loop-i.invariant.3.fits)

pub overflow_add-at : goal.overflow_add-at
overflow_add-at c = omega (arith, c.loop-i.invariant.3.fits, c.feed_line-f.ensures.small, c.well_formed.1.1.1.1.1.0.1)

pub overflow_add-at-in-loop-i : goal.overflow_add-at-in-loop-i
overflow_add-at-in-loop-i c = omega (arith, c.loop-i.invariant.3.fits, c.feed_line-f.ensures.small, c.well_formed.1.1.1.1.1.0.1)

pub shape_of-pkg-then-out-at : goal.shape_of-pkg-then-out-at
shape_of-pkg-then-out-at c =
    let loop = c.loop-i in
    c.feed_line-f.auto.pkg ∙ loop.invariant.0

pub shape_of-line-then-out-at : goal.shape_of-line-then-out-at
shape_of-line-then-out-at c =
    let loop = c.loop-i in
    c.feed_line-f.auto.line ∙ loop.invariant.1

pub returns-then-out-at : goal.returns-then-out-at
returns-then-out-at c = search feed_stop

pub loop-i-smaller : goal.loop-i-smaller
loop-i-smaller c =
    omega (
      arith,
      (c.feed_line-f.ensures.onward c.loop-i-test.true).0,
      (c.feed_line-f.ensures.onward
          c.loop-i-test.true).1,
    )

pub loop-i-preserved : goal.loop-i-preserved
loop-i-preserved c =
    let loop = c.loop-i in
    let kept = c.feed_line-f.auto in
    (kept.pkg ∙ loop.invariant.0, kept.line ∙ loop.invariant.1, search out_length, search feeding_more)

pub shape_of-pkg : goal.shape_of-pkg
shape_of-pkg c = c.loop-i.invariant.0

pub shape_of-line : goal.shape_of-line
shape_of-line c = c.loop-i.invariant.1

pub shape_of-out : goal.shape_of-out
shape_of-out c = c.loop-i.invariant.2

pub returns : goal.returns
returns c = search feed_end
