use native.Mathlib.Omega.{arith}
use mathlib.Core.Path.{◌∙◌}
use Rattle.contract.specs.Ran.{none, more}
use Rattle.worked.proofs.WorkedList.{ledger_answer}
use Rattle.worked.proofs.MoreLists.{joined_last}
use Rattle.worked.proofs.joined.Goals as goal

pub returns : goal.returns
returns c =
    ledger_answer 100 3 (omega arith) c.requires.0 c.start.ensures
    (more c.put_item.ensures
    (more c.put_item-2.ensures (more c.part_at.ensures (more c.read_part.ensures none))))
    ∙ joined_last _ _ _ c.requires.1
