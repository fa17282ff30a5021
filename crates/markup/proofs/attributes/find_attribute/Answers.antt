use native.Mathlib.Omega.{arith}
use lib.ListN.{drop}
use Rattle.markup.proofs.AttributeWalks.{given_within, sought_begin, sought_end, sought_none, sought_here, sought_on}
use Rattle.markup.proofs.attributes.find_attribute.Goals as goal

pub loop-k-init : goal.loop-k-init
loop-k-init c = let a = c.args in (omega arith, c.requires, sought_begin a.wanted.now (drop a.at a.s.now) a.count)

pub next_attribute-requires : goal.next_attribute-requires
next_attribute-requires c = c.loop-k.invariant.1

pub slice_bounds-is_same-count : goal.slice_bounds-is_same-count
slice_bounds-is_same-count c = let w = given_within _ _ _ c.next_attribute.ensures _ c.in_ok-a.was in omega (arith, w.1)

pub slice_bounds-is_same-start : goal.slice_bounds-is_same-start
slice_bounds-is_same-start c = let w = given_within _ _ _ c.next_attribute.ensures _ c.in_ok-a.was in omega (arith, w.1)

pub slice_bounds-is_same-end : goal.slice_bounds-is_same-end
slice_bounds-is_same-end c =
    let w = given_within _ _ _ c.next_attribute.ensures _ c.in_ok-a.was in
    omega (arith, w.2, w.3, w.4, w.5)

pub is_same-requires : goal.is_same-requires
is_same-requires c = tt

pub returns-then-is_same : goal.returns-then-is_same
returns-then-is_same c =
    sought_here _ _ _ _ _ _ c.loop-k.invariant.2 _ c.next_attribute.ensures _ c.in_ok-a.was
    c.loop-k-test.true _ c.is_same.ensures _ c.loop-k.invariant.0 c.if-is_same.true

pub loop-k-preserved : goal.loop-k-preserved
loop-k-preserved c =
    let w = given_within _ _ _ c.next_attribute.ensures _ c.in_ok-a.was in (
      omega (arith, w.0, w.1, w.2, w.3, w.4, c.loop-k.invariant.0),
      w.5,
      sought_on _ _ _ _ _ _ c.loop-k.invariant.2 _ c.next_attribute.ensures _ c.in_ok-a.was
          c.loop-k-test.true _ c.is_same.ensures c.if-is_same.false,
    )

pub returns-in_err-a : goal.returns-in_err-a
returns-in_err-a c = rw c.from_residual.ensures (sought_none _ _ _ _ _ _ c.loop-k.invariant.2 _ c.next_attribute.ensures _ c.in_err-a.was)

pub returns : goal.returns
returns c = sought_end _ c.loop-k.i _ _ _ _ c.loop-k.invariant.2 _ c.loop-k-test.false
