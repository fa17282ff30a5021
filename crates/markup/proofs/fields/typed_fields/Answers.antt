use Rattle.std.proofs.Common.{Some, ap, ◌∙◌}
use Rattle.markup.proofs.FieldTexts.{entry_within, typed_is, typed_none, typed_other}
use Rattle.markup.proofs.fields.typed_fields.Goals as goal

pub field-requires : goal.field-requires
field-requires c = ((entry_within c.entry_at.ensures (c.in_ok-default.was ∙ ap Some c.in-Typed.is)).0, c.requires.1)

pub field-requires-in-Typed : goal.field-requires-in-Typed
field-requires-in-Typed c = ((entry_within c.entry_at.ensures (c.in_ok-default.was ∙ ap Some c.in-Typed.is)).1, c.requires.2)

pub returns-in-Typed : goal.returns-in-Typed
returns-in-Typed c = typed_is c.entry_at.ensures (c.in_ok-default.was ∙ ap Some c.in-Typed.is) c.field.ensures c.field-in-Typed.ensures

pub returns-in-Related : goal.returns-in-Related
returns-in-Related c = typed_other c.entry_at.ensures (c.requires.1, c.requires.2) (c.in_ok-default.was ∙ ap Some c.in-Related.is)

pub returns-in_err-default : goal.returns-in_err-default
returns-in_err-default c = rw c.from_residual.ensures (typed_none c.entry_at.ensures (c.requires.1, c.requires.2) c.in_err-default.was)
