use Rattle.chars.specs.Characters.{long_unit}
use Rattle.names.proofs.units.long_unit.Goals as goal

pub returns-then-a-is_triplet : goal.returns-then-a-is_triplet
unfolding long_unit
returns-then-a-is_triplet c = rw (← c.is_triplet.ensures, c.if-a-is_triplet.true)

pub returns-then-is_char2 : goal.returns-then-is_char2
unfolding long_unit
returns-then-is_char2 c =
    let is_triplet = c.is_triplet in
    rw (← is_triplet.ensures, c.if-a-is_triplet.false, ← c.is_char2.ensures, c.if-is_char2.true)

pub returns-then-is_char3 : goal.returns-then-is_char3
unfolding long_unit
returns-then-is_char3 c =
    let is_triplet = c.is_triplet in
    rw (
      ← is_triplet.ensures,
      c.if-a-is_triplet.false,
      ← c.is_char2.ensures,
      c.if-is_char2.false,
      ← c.is_char3.ensures,
      c.if-is_char3.true,
    )

pub returns-then-is_char4 : goal.returns-then-is_char4
unfolding long_unit
returns-then-is_char4 c =
    let is_triplet = c.is_triplet in
    rw (
      ← is_triplet.ensures,
      c.if-a-is_triplet.false,
      ← c.is_char2.ensures,
      c.if-is_char2.false,
      ← c.is_char3.ensures,
      c.if-is_char3.false,
      ← c.is_char4.ensures,
      c.if-is_char4.true,
    )

pub returns : goal.returns
unfolding long_unit
returns c =
    let is_triplet = c.is_triplet in
    rw (
      ← is_triplet.ensures,
      c.if-a-is_triplet.false,
      ← c.is_char2.ensures,
      c.if-is_char2.false,
      ← c.is_char3.ensures,
      c.if-is_char3.false,
      ← c.is_char4.ensures,
      c.if-is_char4.false,
    )
