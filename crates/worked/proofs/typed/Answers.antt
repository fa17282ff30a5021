use native.Mathlib.Omega.{arith}
use mathlib.Core.Path.{◌∙◌}
use Rattle.contract.specs.Ran.{none, more}
use Rattle.worked.proofs.WorkedList.{ledger_answer}
use Rattle.worked.proofs.MoreLists.{typed_last}
use Rattle.worked.proofs.typed.Goals as goal

pub returns : goal.returns
returns c =
    ledger_answer 100 4 (omega arith) c.requires.0 c.start.ensures
    (more c.put_item.ensures
    (more c.put_default.ensures
    (more c.put_override.ensures
    (more c.drop_override.ensures (more c.media_type.ensures none))))) ∙ typed_last _ _ c.requires.1
