use borrow.Author.Tests.{lt-ltb, ltb-true}
use Rattle.pieces.proofs.ChangedRows.{there_is, not_there}
use mathlib.Core.Path.{sym, ◌∙◌}
use Rattle.pieces.proofs.rows.is_there.Goals as goal

pub returns-then-is_package : goal.returns-then-is_package
returns-then-is_package c = there_is _ _ _ _ (sym c.is_package.ensures ∙ c.if-is_package.true) c.count.ensures.0 (λ h. ltb-true _ _ h) (λ h. lt-ltb _ _ h)

pub returns : goal.returns
returns c = not_there _ _ (sym c.is_package.ensures ∙ c.if-is_package.false)
