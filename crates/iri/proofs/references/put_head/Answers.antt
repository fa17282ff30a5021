use mathlib.Core.Path.{sym}
use native.Mathlib.Omega.{arith}
use lib.Seq.{length-take-le}
use Rattle.base.proofs.Lists.{length_take_le_length}
use Rattle.output.proofs.Sending.{sent_as, sent_more}
use Rattle.iri.proofs.Transforms.{reference_authority_le, head_own, base_scheme_le, head_authority, base_authority_le, head_base}
use Rattle.iri.proofs.references.put_head.Goals as goal

pub slice_bounds-emit-end : goal.slice_bounds-emit-end
slice_bounds-emit-end c =
    sym (length-take-le _ _ (reference_authority_le c.args.base.now c.args.r.now c.args.b c.args.x
    c.requires))

pub emit-requires : goal.emit-requires
emit-requires c = (omega arith, omega (arith, length_take_le_length c.args.x.authority c.args.r.now, c.requires.reference_few))

pub returns-then-rs-ne0 : goal.returns-then-rs-ne0
returns-then-rs-ne0 c =
    sent_as _ _ _ _ _ _ (head_own c.args.base.now c.args.r.now c.args.b c.args.x c.requires
    c.if-rs-ne0.true) c.emit.ensures

pub slice_bounds-emit-end-then-ra-ne0 : goal.slice_bounds-emit-end-then-ra-ne0
slice_bounds-emit-end-then-ra-ne0 c =
    sym (length-take-le _ _ (base_scheme_le c.args.base.now c.args.r.now c.args.b c.args.x
    c.requires))

pub emit-at-requires : goal.emit-at-requires
emit-at-requires c = (omega arith, omega (arith, length_take_le_length c.args.b.scheme c.args.base.now, c.requires.base_few))

pub slice_bounds-emit-end-then-ra-ne0-2 : goal.slice_bounds-emit-end-then-ra-ne0-2
slice_bounds-emit-end-then-ra-ne0-2 c =
    sym (length-take-le _ _ (reference_authority_le c.args.base.now c.args.r.now c.args.b c.args.x
    c.requires))

pub emit-requires-then-ra-ne0 : goal.emit-requires-then-ra-ne0
emit-requires-then-ra-ne0 c = (
  omega (
    arith,
    c.emit-at.ensures.next_is,
    length_take_le_length c.args.b.scheme c.args.base.now,
    c.requires.base_few,
  ),
  omega
      (arith, length_take_le_length c.args.x.authority c.args.r.now, c.requires.reference_few),
)

pub returns-then-ra-ne0 : goal.returns-then-ra-ne0
returns-then-ra-ne0 c =
    sent_as _ _ _ _ _ _ (head_authority c.args.base.now c.args.r.now c.args.b c.args.x
    c.requires c.if-rs-ne0.false c.if-ra-ne0.true)
    (sent_more _ _ _ _ _ _ _ _ c.emit-at.ensures c.emit-at.auto.out c.emit-then-ra-ne0.ensures)

pub slice_bounds-emit-end-2 : goal.slice_bounds-emit-end-2
slice_bounds-emit-end-2 c =
    sym (length-take-le _ _ (base_authority_le c.args.base.now c.args.r.now c.args.b c.args.x
    c.requires))

pub emit-requires-2 : goal.emit-requires-2
emit-requires-2 c = (omega arith, omega (arith, length_take_le_length c.args.b.authority c.args.base.now, c.requires.base_few))

pub returns : goal.returns
returns c =
    sent_as _ _ _ _ _ _ (head_base c.args.base.now c.args.r.now c.args.b c.args.x c.requires
    c.if-ra-ne0.false) c.emit-2.ensures
