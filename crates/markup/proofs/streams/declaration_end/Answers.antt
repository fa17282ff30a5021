use Rattle.markup.proofs.Roots.{declared, undeclared}
use Rattle.markup.proofs.Rests.{stands_within}
use mathlib.Core.Path.{sym, ◌∙◌}
use native.Mathlib.Omega.{arith}
use Rattle.markup.proofs.streams.declaration_end.Goals as goal

pub returns-then-stands : goal.returns-then-stands
returns-then-stands c = declared _ _ c.stands.ensures (stands_within _ 0 _ (omega arith) (sym c.stands.ensures ∙ c.if-stands.true)) c.if-stands.true

pub returns : goal.returns
returns c = undeclared _ _ c.stands.ensures c.if-stands.false
