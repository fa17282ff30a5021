use mathlib.Core.Path.{sym, refl, ◌∙◌}
use native.Mathlib.Omega.{arith}
use lib.Seq.{length-take-le}
use Rattle.chars.specs.Bytes.{slash}
use Rattle.base.proofs.Bools.{and_false, and_right_true}
use Rattle.chars.proofs.Searches.{last_le}
use Rattle.names.proofs.Reserved.{reserved_none, second_le, reserved_is}
use Rattle.names.proofs.parts.is_reserved.Goals as goal

pub returns-then-p-eq0 : goal.returns-then-p-eq0
returns-then-p-eq0 c = sym (reserved_none _ _ c.find_past-p.ensures c.if-p-eq0.true)

pub slice_bounds-find_past-end : goal.slice_bounds-find_past-end
slice_bounds-find_past-end c = sym (length-take-le _ c.args.s.now (omega (arith, c.find_past-p.ensures, last_le slash c.args.s.now)))

pub slice_bounds-ends_in_rels-count : goal.slice_bounds-ends_in_rels-count
slice_bounds-ends_in_rels-count c = omega (arith, c.find_past-p.ensures, last_le slash c.args.s.now)

pub slice_bounds-ends_in_rels-start : goal.slice_bounds-ends_in_rels-start
slice_bounds-ends_in_rels-start c = omega (arith, c.find_past-p.ensures, last_le slash c.args.s.now)

pub slice_bounds-is_rels-count : goal.slice_bounds-is_rels-count
slice_bounds-is_rels-count c =
    let find_past = c.find_past-p in
    second_le _ _ find_past.ensures _ c.find_past-q.ensures

pub slice_bounds-is_rels-start : goal.slice_bounds-is_rels-start
slice_bounds-is_rels-start c =
    let find_past = c.find_past-p in
    second_le _ _ find_past.ensures _ c.find_past-q.ensures

pub slice_bounds-is_rels-end : goal.slice_bounds-is_rels-end
slice_bounds-is_rels-end c = omega (arith, c.find_past-p.ensures, last_le slash c.args.s.now)

pub returns-then-ends_in_rels : goal.returns-then-ends_in_rels
returns-then-ends_in_rels c =
    let find_past = c.find_past-p in
    sym (reserved_is _ _ find_past.ensures _ c.find_past-q.ensures _ _ c.is_rels.ensures
    c.ends_in_rels.ensures ∙ rw (c.if-ends_in_rels.true, and_right_true))

pub returns : goal.returns
returns c =
    let find_past = c.find_past-p in
    sym (reserved_is _ _ find_past.ensures _ c.find_past-q.ensures _ _ refl c.ends_in_rels.ensures ∙ rw
    (c.if-ends_in_rels.false, and_false))
