use native.Mathlib.Omega.{arith}
use mathlib.Core.Path.{◌∙◌}
use Rattle.contract.specs.Ran.{none, more}
use Rattle.worked.proofs.WorkedList.{ledger_answer}
use Rattle.worked.proofs.MoreLists.{totals_of, counted_last}
use Rattle.worked.proofs.counted.Goals as goal

pub shape_of-p : goal.shape_of-p
shape_of-p c =
    c.drop_default.auto.pkg ∙ c.drop_item.auto.pkg ∙ c.put_default.auto.pkg ∙
    c.put_item-2.auto.pkg ∙ c.put_item.auto.pkg ∙ c.start.auto.pkg

pub returns : goal.returns
returns c =
    totals_of c.totals.result 1 1 11 (ledger_answer 100 5 (omega arith) c.requires c.start.ensures
    (more c.put_item.ensures
    (more c.put_item-2.ensures
    (more c.put_default.ensures
    (more c.drop_item.ensures (more c.drop_default.ensures (more c.totals.ensures none))))))
    ∙ counted_last _)
