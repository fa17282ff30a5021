use Rattle.markup.proofs.EntryValues.{value_given, value_missing}
use Rattle.markup.proofs.entries.find_value.Goals as goal

pub returns : goal.returns
returns c = value_given _ _ _ _ c.find_attribute.ensures _ c.in_ok-a.was

pub returns-in_err-a : goal.returns-in_err-a
returns-in_err-a c = rw c.from_residual.ensures (value_missing _ _ _ _ c.find_attribute.ensures c.in_err-a.was)
