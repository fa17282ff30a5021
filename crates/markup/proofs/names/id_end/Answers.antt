use native.Mathlib.Omega.{arith}
use Rattle.markup.proofs.NameEnds.{id_on, id_off}
use Rattle.markup.proofs.names.id_end.Goals as goal

pub returns-then-is_name_first : goal.returns-then-is_name_first
returns-then-is_name_first c =
    let e = c.name_bytes_end.ensures in
    (e.0, id_on _ _ _ _ c.byte_at.ensures c.is_name_first.ensures _ c.if-is_name_first.true e.1)

pub returns : goal.returns
returns c = ((omega arith, omega arith), id_off _ _ _ _ c.byte_at.ensures c.is_name_first.ensures c.if-is_name_first.false)
