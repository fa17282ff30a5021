use native.Mathlib.Omega.{arith}
use Rattle.iri.proofs.Splitting.{split_a, split_b, split_p, split_is}
use Rattle.iri.proofs.split.split.Goals as goal

pub slice_bounds-authority_len-count : goal.slice_bounds-authority_len-count
slice_bounds-authority_len-count c = omega (arith, split_a c.args.s.now _ c.scheme_len-a.ensures)

pub slice_bounds-authority_len-start : goal.slice_bounds-authority_len-start
slice_bounds-authority_len-start c = omega (arith, split_a c.args.s.now _ c.scheme_len-a.ensures)

pub overflow_add-b : goal.overflow_add-b
overflow_add-b c =
    let l = split_b c.args.s.now _ c.scheme_len-a.ensures _ c.authority_len.ensures in
    omega arith

pub slice_bounds-first_member-count : goal.slice_bounds-first_member-count
slice_bounds-first_member-count c =
    let l = split_b c.args.s.now _ c.scheme_len-a.ensures _ c.authority_len.ensures in
    omega arith

pub slice_bounds-first_member-start : goal.slice_bounds-first_member-start
slice_bounds-first_member-start c =
    let l = split_b c.args.s.now _ c.scheme_len-a.ensures _ c.authority_len.ensures in
    omega arith

pub overflow_add-p : goal.overflow_add-p
overflow_add-p c =
    let l = split_p c.args.s.now _ c.scheme_len-a.ensures _ c.authority_len.ensures _
    c.first_member.ensures in
    omega arith

pub returns : goal.returns
returns c =
    let args = c.args in
    split_is args.s.now _ c.scheme_len-a.ensures _ c.authority_len.ensures _
    c.first_member.ensures _ c.find-q.ensures
