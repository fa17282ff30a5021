use mathlib.Core.Path.{refl}
use native.Mathlib.Omega.{arith}
use Rattle.store.specs.Layout.{slot_count}
use Rattle.commands.proofs.ListedParts.{groups_begin, groups_more, groups_end}
use borrow.Author.Rules.{rules}
use Rattle.commands.proofs.listing.put_listing.Goals as goal

pub item_count-n-requires : goal.item_count-n-requires
item_count-n-requires c = c.requires

pub loop-row-init : goal.loop-row-init
loop-row-init c = (refl, groups_begin _ _ _)

pub own_end-end-requires : goal.own_end-end-requires
own_end-end-requires c = (c.requires, c.loop-row-test.true)

pub put_group-at-requires : goal.put_group-at-requires
put_group-at-requires c =
    let shape = c.requires in
    let few = c.item_count-n.ensures.low in
    let inv = c.loop-row.invariant.1 in
    let l = c.loop-row-test.true in
    let end = c.own_end-end.ensures in record {
      shape = shape;
      from_lt_to = (
        omega (arith, end.low),
        end.high slot_count (omega (arith, l, few, shape.few)) (omega (arith, few, shape.few)),
        omega
            (arith, inv.few, inv.within, few, shape.few),
      );
    }

pub loop-row-smaller : goal.loop-row-smaller
loop-row-smaller c = omega (arith, c.own_end-end.ensures.low, c.loop-row-test.true)

pub loop-row-preserved : goal.loop-row-preserved
loop-row-preserved c = search (groups_more, rules)

pub returns : goal.returns
returns c = search groups_end
