use mathlib.Core.Path.{◌∙◌}
use Rattle.names.proofs.Digits.{numeral_none, numeral_some}
use Rattle.names.proofs.items.read_numeral.Goals as goal

pub returns-then-n-byte_at : goal.returns-then-n-byte_at
returns-then-n-byte_at c = numeral_none _ (rw c.byte_at.ensures at c.if-n-byte_at.true)

pub returns : goal.returns
returns c = c.read_number.ensures ∙ numeral_some _ (rw c.byte_at.ensures at c.if-n-byte_at.false)
