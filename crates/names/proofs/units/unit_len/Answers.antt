use Rattle.chars.specs.Characters.{unit}
use Rattle.names.proofs.units.unit_len.Goals as goal

pub returns-then-is_single : goal.returns-then-is_single
unfolding unit
returns-then-is_single c = rw (← c.byte_at-a.ensures, ← c.is_single.ensures, c.if-is_single.true)

pub returns : goal.returns
unfolding unit
returns c =
    let byte_at = c.byte_at-a in
    rw (
      ← byte_at.ensures,
      ← c.is_single.ensures,
      c.if-is_single.false,
      ← c.byte_at.ensures,
      ←
          c.byte_at-2.ensures,
      ← c.byte_at-3.ensures,
    ) c.long_unit.ensures
