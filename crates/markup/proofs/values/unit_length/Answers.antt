use Rattle.std.proofs.lemmas.Option.{MatchOption-at_none}
use Rattle.markup.proofs.Units.{unit_less, unit_entity, unit_none, unit_byte}
use Rattle.markup.proofs.values.unit_length.Goals as goal

pub returns-then-b-eq60 : goal.returns-then-b-eq60
returns-then-b-eq60 c = unit_less _ _ c.requires c.if-b-eq60.true

pub returns-in_err-e : goal.returns-in_err-e
returns-in_err-e c =
    rw c.from_residual.ensures
    (unit_none c.args.s.now c.args.i c.requires c.if-b-eq60.false c.if-b-eq38.true (MatchOption-at_none _ _ c.in_err-e.was c.entity_at.ensures))

pub returns-then-b-eq38 : goal.returns-then-b-eq38
returns-then-b-eq38 c = unit_entity _ _ c.requires c.if-b-eq60.false c.if-b-eq38.true _ _ c.in_ok-e.ensures

pub returns : goal.returns
returns c = unit_byte _ _ c.requires c.if-b-eq60.false c.if-b-eq38.false
