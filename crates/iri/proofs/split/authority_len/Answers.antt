use Prim.Native.Nat.{◌≤◌, ◌+◌}
use mathlib.Core.Path.{◌≡◌}
use native.Mathlib.Omega.{arith}
use lib.ListN.{length}
use Rattle.iri.specs.Components.{authority_length}
use Rattle.iri.proofs.Splitting.{authority_start, authority_yes, authority_le, authority_half, authority_no}
use Rattle.iri.proofs.split.authority_len.Goals as goal

pub slice_bounds-first_member-count : goal.slice_bounds-first_member-count
slice_bounds-first_member-count c =
    let s = c.args.s.now in
    let l : 2 ≤ length s = authority_start s _ _ c.byte_at.ensures c.byte_at-then-byte_at-eq47.ensures c.if-byte_at-eq47-2.true in
    omega arith

pub slice_bounds-first_member-start : goal.slice_bounds-first_member-start
slice_bounds-first_member-start c =
    let s = c.args.s.now in
    let l : 2 ≤ length s = authority_start s _ _ c.byte_at.ensures c.byte_at-then-byte_at-eq47.ensures c.if-byte_at-eq47-2.true in
    omega arith

pub overflow_add-result : goal.overflow_add-result
overflow_add-result c =
    let s = c.args.s.now in
    let l : 2 + c.first_member.result ≡ authority_length s = authority_yes s _ _ c.byte_at.ensures
    c.byte_at-then-byte_at-eq47.ensures _ c.if-byte_at-eq47.true c.if-byte_at-eq47-2.true c.first_member.ensures in
    omega (arith, authority_le s)

pub returns-then-byte_at-eq47-2 : goal.returns-then-byte_at-eq47-2
returns-then-byte_at-eq47-2 c =
    let byte_at = c.byte_at in
    authority_yes _ _ _ byte_at.ensures c.byte_at-then-byte_at-eq47.ensures _ c.if-byte_at-eq47.true c.if-byte_at-eq47-2.true
    c.first_member.ensures

pub returns-else-byte_at-eq47-2 : goal.returns-else-byte_at-eq47-2
returns-else-byte_at-eq47-2 c = authority_half _ _ _ c.byte_at.ensures c.byte_at-then-byte_at-eq47.ensures c.if-byte_at-eq47-2.false

pub returns-else-byte_at-eq47 : goal.returns-else-byte_at-eq47
returns-else-byte_at-eq47 c = authority_no _ _ c.byte_at.ensures c.if-byte_at-eq47.false
