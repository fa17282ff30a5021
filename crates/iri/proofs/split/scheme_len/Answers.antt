use Prim.Native.Nat.{◌<◌}
use mathlib.Core.Path.{refl}
use native.Mathlib.Omega.{arith}
use lib.ListN.{length}
use Rattle.chars.specs.Bytes.{colon}
use Rattle.iri.proofs.Splitting.{byte_lt, scheme_yes, scheme_zero, scheme_no}
use Rattle.iri.proofs.split.scheme_len.Goals as goal

pub overflow_add-result : goal.overflow_add-result
overflow_add-result c =
    let s = c.args.s.now in
    let l : c.first_member-k.result < length s = byte_lt s _ _ colon refl c.byte_at.ensures
    c.if-byte_at-eq58.true in
    omega arith

pub returns-then-k-ne0 : goal.returns-then-k-ne0
returns-then-k-ne0 c =
    let first_member = c.first_member-k in
    scheme_yes _ _ _ first_member.ensures c.byte_at.ensures c.if-byte_at-eq58.true c.if-k-ne0.true

pub returns-else-k-ne0 : goal.returns-else-k-ne0
returns-else-k-ne0 c =
    let first_member = c.first_member-k in
    scheme_zero _ _ _ first_member.ensures c.byte_at.ensures c.if-k-ne0.false

pub returns-else-byte_at-eq58 : goal.returns-else-byte_at-eq58
returns-else-byte_at-eq58 c = scheme_no _ _ _ c.first_member-k.ensures c.byte_at.ensures c.if-byte_at-eq58.false
