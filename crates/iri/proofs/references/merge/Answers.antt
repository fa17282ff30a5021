use native.Mathlib.Omega.{arith}
use Rattle.chars.specs.Bytes.{slash}
use Rattle.base.proofs.Lists.{length_take_le_length}
use Rattle.iri.proofs.Merging.{merge_absolute, merge_empty, last_length, merge_folder}
use Rattle.iri.proofs.references.merge.Goals as goal

pub returns-then-byte_at-eq47 : goal.returns-then-byte_at-eq47
returns-then-byte_at-eq47 c =
    let byte_at = c.byte_at in
    merge_absolute _ _ _ _ byte_at.ensures _ _ _ c.if-byte_at-eq47.true c.emit.ensures

pub returns-then-authority-base : goal.returns-then-authority-base
returns-then-authority-base c =
    let byte_at = c.byte_at in
    merge_empty _ _ _ _ byte_at.ensures c.if-byte_at-eq47.false _ _ _ _ _ c.if-authority-base.true c.emit-a.ensures
    c.emit-a.auto.out c.emit-then-authority-base.ensures

pub slice_bounds-emit-end-2 : goal.slice_bounds-emit-end-2
slice_bounds-emit-end-2 c = last_length slash _ _ c.find_past-q.ensures

pub emit-a-requires-2 : goal.emit-a-requires-2
emit-a-requires-2 c = (omega arith, omega (arith, length_take_le_length c.find_past-q.result c.args.base.now))

pub emit-requires-2 : goal.emit-requires-2
emit-requires-2 c = (
  omega (arith, c.emit-a-2.ensures.next_is, length_take_le_length c.find_past-q.result c.args.base.now),
  omega arith,
)

pub returns : goal.returns
returns c =
    let byte_at = c.byte_at in
    merge_folder _ _ _ _ byte_at.ensures c.if-byte_at-eq47.false _ _ _ _ _ _ c.if-authority-base.false c.find_past-q.ensures
    c.emit-a-2.ensures c.emit-a-2.auto.out c.emit-2.ensures
