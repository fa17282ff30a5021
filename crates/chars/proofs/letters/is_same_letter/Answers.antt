use mathlib.Core.Path.{◌∙◌}
use Rattle.chars.proofs.Lowering.{ascii_lower}
use Rattle.chars.proofs.letters.is_same_letter.Goals as goal

pub returns : goal.returns
returns c = c.eq_ignore_ascii_case.ensures ∙ rw (ascii_lower c.args.x, ascii_lower c.args.y)
