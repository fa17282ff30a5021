use native.Mathlib.Omega.{arith}
use mathlib.Core.Path.{◌∙◌}
use Rattle.contract.specs.Ran.{none, more}
use Rattle.worked.proofs.WorkedList.{worked_last, ledger_answer, found_length}
use Rattle.worked.proofs.worked.Goals as goal

pub returns : goal.returns
returns c =
    found_length c.find_item.result 5 (ledger_answer 100 3 (omega arith) c.requires c.start.ensures
    (more c.put_item.ensures
    (more c.put_item-2.ensures (more c.put_item-3.ensures (more c.find_item.ensures none))))
    ∙ worked_last _)
