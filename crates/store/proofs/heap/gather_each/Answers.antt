use Prim.Native.Nat.{◌<◌}
use native.Mathlib.Omega.{arith}
use Rattle.store.specs.Places.{Settled}
use Rattle.store.proofs.Gathering.{gather_none, gather_more, gather_all}
use Rattle.store.proofs.heap.gather_each.Goals as goal

pub loop-r-init : goal.loop-r-init
loop-r-init c = (omega arith, (λ so. gather_none _ so))

pub loop-r-preserved : goal.loop-r-preserved
loop-r-preserved c =
    let pre = c.requires in
    let inv = c.loop-r.invariant in
    let s : (0 < c.in-Some-settle.k) × Settled c.loop-r.pkg c.settle.new.pkg c.in-Some.r c.loop-r.c c.args.e c.in-Some-settle.k = c.in-Some-settle.ensures in
    (s.1.fits, (λ so. gather_more _ _ _ _ _ _ _ _ (inv.1 so) pre.1 pre.2 pre.3 inv.0 c.in-Some.ensures s.1))

pub returns : goal.returns
returns c so =
    let pre = c.requires in
    let inv = c.loop-r.invariant in
    gather_all _ _ _ _ _ _ (inv.1 so) pre.1 pre.2 pre.3 inv.0 c.in_default.ensures c.put4.ensures
