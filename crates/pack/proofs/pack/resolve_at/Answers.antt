use Prim.Native.Nat.{◌-◌, ◌+◌}
use native.Mathlib.Omega.{arith}
use Rattle.output.specs.declared.refusals.Refusal.TheVariants.{BadTarget}
use lib.ListN.{drop}
use Rattle.pack.specs.Pack.{resolve_pack}
use Rattle.base.proofs.Lists.{length_take_few}
use Rattle.pack.proofs.Locating.{located_refused}
use Rattle.pack.proofs.Resolving.{package_end_length, pack_refused, part_end_few, package_end_few, pack_short, pack_found}
use mathlib.Core.Bool.{not}
use mathlib.Core.Path.{ap}
use Rattle.pack.proofs.pack.resolve_at.Goals as goal

pub returns-then-not-is_unfragmented : goal.returns-then-not-is_unfragmented
returns-then-not-is_unfragmented c =
    located_refused (resolve_pack c.args.s.now) BadTarget c.args.out.now
    (pack_refused c.args.s.now _ _ c.requires _ _ c.decode-k.ensures c.decode-k.auto.out _
    c.is_unfragmented.ensures (ap not c.if-not-is_unfragmented.true))

pub returns-then-out-need : goal.returns-then-out-need
returns-then-out-need c =
    pack_short c.args.s.now _ _ c.requires _ _ c.decode-k.ensures c.decode-k.auto.out _
    c.is_unfragmented.ensures (ap not c.if-not-is_unfragmented.false) _ c.part_len-m.ensures c.args.out.now
    c.if-out-need.true

pub emit-requires : goal.emit-requires
emit-requires c =
    let l = part_end_few c.args.s.now _ _ c.requires _ _ c.decode-k.ensures c.decode-k.auto.out _
    c.is_unfragmented.ensures (ap not c.if-not-is_unfragmented.false) _ c.part_len-m.ensures in
    let y = c.args.place.to in
    let m = c.part_len-m.result in (
      omega (
        arith,
        c.emit-at.ensures.next_is,
        package_end_few c.args.s.now _ _ c.requires _ _
            c.decode-k.ensures c.decode-k.auto.out,
        package_end_length c.args.s.now _ _ c.requires _ _
            c.decode-k.ensures c.decode-k.auto.out,
      ),
      omega
          (arith, length_take_few (y + m - y) (drop y c.args.s.now)),
    )

pub returns : goal.returns
returns c =
    pack_found c.args.s.now _ _ c.requires _ _ c.decode-k.ensures c.decode-k.auto.out _
    c.is_unfragmented.ensures (ap not c.if-not-is_unfragmented.false) _ c.part_len-m.ensures c.args.out.now _ _ _ _
    c.if-out-need.false c.emit-at.ensures c.emit-at.auto.out c.emit.ensures
