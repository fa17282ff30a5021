use Rattle.commands.proofs.PartLines.{field_short, field_long}
use Rattle.commands.proofs.listing.short_field.Goals as goal

pub returns-then-most-s : goal.returns-then-most-s
returns-then-most-s c = field_long _ _ _ _ _ c.field-s.ensures.2 c.if-most-s.true

pub returns : goal.returns
returns c = field_short _ _ _ _ _ c.field-s.ensures.2 c.if-most-s.false
