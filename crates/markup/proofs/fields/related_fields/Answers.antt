use Rattle.std.proofs.Common.{Some, ap, ◌∙◌}
use Rattle.markup.proofs.FieldTexts.{entry_within, related_is, related_none, related_other}
use Rattle.markup.proofs.fields.related_fields.Goals as goal

pub field-requires : goal.field-requires
field-requires c = ((entry_within c.entry_at.ensures (c.in_ok-name.was ∙ ap Some c.in-Related.is)).0, c.requires.1)

pub field-requires-in-Related : goal.field-requires-in-Related
field-requires-in-Related c = ((entry_within c.entry_at.ensures (c.in_ok-name.was ∙ ap Some c.in-Related.is)).1, c.requires.2)

pub field-requires-in-Related-2 : goal.field-requires-in-Related-2
field-requires-in-Related-2 c = ((entry_within c.entry_at.ensures (c.in_ok-name.was ∙ ap Some c.in-Related.is)).2, c.requires.3)

pub returns-in-Related : goal.returns-in-Related
returns-in-Related c =
    related_is c.entry_at.ensures (c.in_ok-name.was ∙ ap Some c.in-Related.is) c.field.ensures
    c.field-in-Related.ensures c.field-in-Related-2.ensures

pub returns-in-Typed : goal.returns-in-Typed
returns-in-Typed c = related_other c.entry_at.ensures (c.requires.1, c.requires.2, c.requires.3) (c.in_ok-name.was ∙ ap Some c.in-Typed.is)

pub returns-in_err-name : goal.returns-in_err-name
returns-in_err-name c = rw c.from_residual.ensures (related_none c.entry_at.ensures (c.requires.1, c.requires.2, c.requires.3) c.in_err-name.was)
