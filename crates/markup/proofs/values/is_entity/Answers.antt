use mathlib.Core.Path.{◌∙◌}
use Rattle.markup.proofs.Rests.{second_differs}
use Rattle.markup.proofs.values.is_entity.Goals as goal

pub returns-then-byte_at-t : goal.returns-then-byte_at-t
returns-then-byte_at-t c = second_differs c.args.t.now c.args.s.now c.args.i c.requires.1 (λ e. c.if-byte_at-t.true (c.byte_at.ensures ∙ e))
