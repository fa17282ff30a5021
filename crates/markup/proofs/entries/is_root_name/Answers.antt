use mathlib.Core.Path.{sym, ap, ◌∙◌}
use Rattle.chars.specs.Lists.{same}
use Rattle.markup.specs.Entries.{root_name}
use Rattle.markup.specs.declared.entries.Kind.{Kind}
use Rattle.markup.proofs.entries.is_root_name.Goals as goal

pub returns-in-Types : goal.returns-in-Types
returns-in-Types c = c.is_same.ensures ∙ ap (λ (k : Kind). same c.args.name.now (root_name k)) (sym c.in-Types.is)

pub returns-in-Relationships : goal.returns-in-Relationships
returns-in-Relationships c = c.is_same-in-Relationships.ensures ∙ ap (λ (k : Kind). same c.args.name.now (root_name k)) (sym c.in-Relationships.is)
