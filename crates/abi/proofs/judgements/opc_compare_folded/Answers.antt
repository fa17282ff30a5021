use mathlib.Core.Path.{sym, ap, ◌∙◌}
use Rattle.abi.specs.Replies.{order_number}
use Rattle.abi.proofs.judgements.opc_compare_folded.Goals as goal

pub returns-in-Less : goal.returns-in-Less
returns-in-Less c = sym (ap order_number (sym c.compare_folded.ensures ∙ c.in-Less.is))

pub returns-in-Equal : goal.returns-in-Equal
returns-in-Equal c = sym (ap order_number (sym c.compare_folded.ensures ∙ c.in-Equal.is))

pub returns-in-Greater : goal.returns-in-Greater
returns-in-Greater c = sym (ap order_number (sym c.compare_folded.ensures ∙ c.in-Greater.is))
