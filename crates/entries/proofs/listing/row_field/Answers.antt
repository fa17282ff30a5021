use Rattle.entries.proofs.SetNumbers.{item_field_lem, target_field_lem, same_field}
use Rattle.entries.proofs.listing.row_field.Goals as goal

pub returns-then-set-eq0 : goal.returns-then-set-eq0
returns-then-set-eq0 c = item_field_lem _ c.args.k c.if-set-eq0.true

pub returns-then-k-eq4 : goal.returns-then-k-eq4
returns-then-k-eq4 c = target_field_lem _ _ c.if-set-eq0.false c.if-k-eq4.true

pub returns : goal.returns
returns c = same_field _ _ c.if-set-eq0.false c.if-k-eq4.false
