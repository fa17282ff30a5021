use Rattle.std.proofs.Common.{◌∙◌}
use Rattle.markup.proofs.AttributeWalks.{named_found}
use Rattle.markup.proofs.tags.is_repeated.Goals as goal

pub returns-then-marked : goal.returns-then-marked
returns-then-marked c = c.is_some.ensures ∙ named_found _ _ _ _ _ _ c.find_attribute.ensures
