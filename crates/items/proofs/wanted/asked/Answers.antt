use mathlib.Core.Path.{ap, sym, ◌∙◌}
use Rattle.names.specs.Items.{refusal_number}
use Rattle.names.proofs.Suffixes.{told_some}
use Rattle.items.proofs.Naming.{refused_some, asked_refused, asked_named, named_small}
use Rattle.items.proofs.wanted.asked.Goals as goal

pub unwrap-requires : goal.unwrap-requires
unwrap-requires c = told_some _ _ c.refusal.ensures (refused_some _ _ c.take_apart-split.ensures _ c.in_default.is)

pub returns-in_default : goal.returns-in_default
returns-in_default c = asked_refused _ _ c.take_apart-split.ensures _ (sym (ap refusal_number c.unwrap.ensures) ∙ c.refusal.ensures)

pub tag_of-requires : goal.tag_of-requires
tag_of-requires c = named_small _ _ c.take_apart-split.ensures _ _ c.in-Named.is

pub returns : goal.returns
returns c = asked_named _ _ c.take_apart-split.ensures _ _ c.in-Named.is _ c.tag_of.ensures
