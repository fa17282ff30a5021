use Rattle.std.proofs.Common.{refl, ◌≡◌, ◌∙◌, length-set, arith}
use Rattle.markup.proofs.Decodings.{decode_next, decoded_full, decoded_all}
use Rattle.markup.proofs.decoding.decode.Goals as goal

pub loop-n-init : goal.loop-n-init
loop-n-init c = (omega arith, c.requires, refl)

pub returns-then-s-i : goal.returns-then-s-i
returns-then-s-i c =
    let inv = c.loop-n.invariant in
    decoded_all _ _ _ _ inv.1 (omega arith) inv.2 c.if-s-i.true

pub unit_at-u-requires : goal.unit_at-u-requires
unit_at-u-requires c = c.if-s-i.false

pub loop-n-preserved : goal.loop-n-preserved
loop-n-preserved c =
    let inv = c.loop-n.invariant in
    let e = c.unit_at-u.ensures in (
      e.2,
      length-set c.loop-n.out c.loop-n.n _ ∙ inv.1,
      decode_next _ _ _ _ inv.1 (omega arith) inv.2 _ _ c.if-s-i.false (omega arith) e,
    )

pub returns : goal.returns
returns c =
    let inv = c.loop-n.invariant in
    let full : c.loop-n.n ≡ 256 = omega arith in
    decoded_full _ _ c.loop-n.i c.loop-n.n inv.1 (omega arith) inv.2 full
