use native.Mathlib.Omega.{arith}
use mathlib.Core.Path.{◌∙◌}
use Rattle.contract.specs.Ran.{none, more}
use Rattle.worked.proofs.WorkedList.{ledger_answer, found_length}
use Rattle.worked.proofs.MoreLists.{recut_last}
use Rattle.worked.proofs.recut.Goals as goal

pub shape_of-p : goal.shape_of-p
shape_of-p c = c.cut_part-2.auto.pkg ∙ c.join_part.auto.pkg ∙ c.cut_part.auto.pkg ∙ c.put_item.auto.pkg ∙ c.start.auto.pkg

pub returns : goal.returns
returns c =
    found_length c.find_item.result 3 (ledger_answer 100 4 (omega arith) c.requires c.start.ensures
    (more c.put_item.ensures
    (more c.cut_part.ensures
    (more c.join_part.ensures (more c.cut_part-2.ensures (more c.find_item.ensures none)))))
    ∙ recut_last _)
