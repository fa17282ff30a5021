use Prim.Native.Nat.{◌-◌}
use native.Mathlib.Omega.{arith}
use lib.ListN.{length}
use borrow.Author.Rules.{rules}
use Rattle.chars.specs.Bytes.{slash}
use Rattle.base.proofs.Lists.{length_take_le_length, length_part_le}
use Rattle.iri.proofs.Merging.{last_length, last_in}
use Rattle.targets.proofs.Sources.{rels_sent}
use Rattle.targets.proofs.relationships.put_relationships.Goals as goal

pub slice_bounds-emit-end : goal.slice_bounds-emit-end
slice_bounds-emit-end c = last_length slash _ _ c.find_past-q.ensures

pub emit-a-requires : goal.emit-a-requires
emit-a-requires c = (omega arith, omega (arith, length_take_le_length c.find_past-q.result c.args.s.now))

pub emit-b-requires : goal.emit-b-requires
emit-b-requires c = (
  omega (arith, c.emit-a.ensures.next_is, length_take_le_length c.find_past-q.result c.args.s.now),
  omega
      arith,
)

pub slice_bounds-emit-count : goal.slice_bounds-emit-count
slice_bounds-emit-count c =
    let find_past = c.find_past-q in
    last_in slash _ _ find_past.ensures

pub slice_bounds-emit-start : goal.slice_bounds-emit-start
slice_bounds-emit-start c =
    let l = last_in slash _ _ c.find_past-q.ensures in
    search rules

pub emit-c-requires : goal.emit-c-requires
emit-c-requires c = (
  omega (
    arith,
    c.emit-b.ensures.next_is,
    c.emit-a.ensures.next_is,
    length_take_le_length
        c.find_past-q.result c.args.s.now,
  ),
  omega (
    arith,
    length_part_le (length c.args.s.now - c.find_past-q.result) c.find_past-q.result
        c.args.s.now,
  ),
)

pub emit-requires : goal.emit-requires
emit-requires c = (
  omega (
    arith,
    c.emit-c.ensures.next_is,
    c.emit-b.ensures.next_is,
    c.emit-a.ensures.next_is,
    length_take_le_length c.find_past-q.result c.args.s.now,
    length_part_le
        (length c.args.s.now - c.find_past-q.result) c.find_past-q.result c.args.s.now,
  ),
  omega
      arith,
)

pub returns : goal.returns
returns c =
    let find_past = c.find_past-q in
    rels_sent _ _ _ _ _ _ _ _ _ _ _ find_past.ensures c.emit-a.ensures c.emit-a.auto.out c.emit-b.ensures
    c.emit-b.auto.out c.emit-c.ensures c.emit-c.auto.out c.emit.ensures
