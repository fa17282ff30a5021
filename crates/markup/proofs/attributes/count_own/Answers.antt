use native.Mathlib.Omega.{arith}
use lib.ListN.{drop}
use Rattle.markup.proofs.AttributeWalks.{given_within, one_at_most, own_begin, own_end, own_none, own_on}
use Rattle.markup.proofs.attributes.count_own.Goals as goal

pub loop-k-init : goal.loop-k-init
loop-k-init c = let a = c.args in (c.requires, omega arith, own_begin (drop a.at a.s.now) a.count)

pub next_attribute-requires : goal.next_attribute-requires
next_attribute-requires c = c.loop-k.invariant.0

pub own_one-n-requires : goal.own_one-n-requires
own_one-n-requires c =
    let w = given_within _ _ _ c.next_attribute.ensures _ c.in-Some.is in
    (omega (arith, w.1), omega (arith, w.2, w.3, w.4, w.5))

pub overflow_add-n : goal.overflow_add-n
overflow_add-n c =
    let one = one_at_most _ _ _ _ c.own_one-n.ensures in
    record { fits = omega (arith, one, c.loop-k-test.true, c.loop-k.invariant.1) }

pub loop-k-preserved : goal.loop-k-preserved
loop-k-preserved c =
    let w = given_within _ _ _ c.next_attribute.ensures _ c.in-Some.is in
    let one = one_at_most _ _ _ _ c.own_one-n.ensures in (
      w.5,
      omega (arith, one, c.loop-k.invariant.1),
      own_on _ _ _ _ _ _ c.loop-k.invariant.2 _ c.next_attribute.ensures _ c.in-Some.is
          c.loop-k-test.true _ c.own_one-n.ensures,
    )

pub returns-in_default : goal.returns-in_default
returns-in_default c = own_none _ _ _ _ _ _ c.loop-k.invariant.2 _ c.next_attribute.ensures c.in_default.is

pub returns : goal.returns
returns c = own_end c.args.s.now c.loop-k.i _ _ _ _ c.loop-k.invariant.2 c.loop-k-test.false
