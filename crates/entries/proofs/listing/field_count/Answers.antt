use Rattle.entries.proofs.SetNumbers.{two_fields_lem, five_fields, no_fields}
use Rattle.entries.proofs.listing.field_count.Goals as goal

pub returns-then-set-lt3 : goal.returns-then-set-lt3
returns-then-set-lt3 c = two_fields_lem _ c.if-set-lt3.true

pub returns-then-set-eq3 : goal.returns-then-set-eq3
returns-then-set-eq3 c = five_fields _ c.if-set-eq3.true

pub returns : goal.returns
returns c = no_fields _ c.if-set-lt3.false c.if-set-eq3.false
