use native.Mathlib.Omega.{arith}
use Rattle.markup.proofs.NameEnds.{name_alone, colon_within, name_first_lem, name_both}
use Rattle.markup.proofs.names.name_end.Goals as goal

pub returns-then-e-at : goal.returns-then-e-at
returns-then-e-at c =
    let e = c.id_end-e.ensures in
    (e.0, name_alone _ _ _ _ e.1 c.byte_at.ensures c.if-e-at.true)

pub id_end-n-requires : goal.id_end-n-requires
id_end-n-requires c =
    let e = c.id_end-e.ensures in
    colon_within _ _ _ _ e.1 c.byte_at.ensures c.if-e-at.false

pub returns-then-n-e : goal.returns-then-n-e
returns-then-n-e c =
    let e = c.id_end-e.ensures in
    (e.0, name_first_lem _ _ _ _ e.1 c.byte_at.ensures c.if-e-at.false _ c.id_end-n.ensures.1 c.if-n-e.true)

pub returns : goal.returns
returns c =
    let e = c.id_end-e.ensures in (
      (omega arith, omega arith),
      name_both _ _ _ _ e.1 c.byte_at.ensures c.if-e-at.false _ c.id_end-n.ensures.1 c.if-n-e.false,
    )
