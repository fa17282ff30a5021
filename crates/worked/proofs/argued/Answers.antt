use native.Mathlib.Omega.{arith}
use mathlib.Core.Path.{◌∙◌}
use Rattle.contract.specs.Ran.{none, more}
use Rattle.worked.proofs.WorkedList.{ledger_answer}
use Rattle.worked.proofs.MoreLists.{argued_last}
use Rattle.worked.proofs.argued.Goals as goal

pub shape_of-p : goal.shape_of-p
shape_of-p c =
    c.drop_override.auto.pkg ∙ c.put_override.auto.pkg ∙ c.put_default.auto.pkg
    ∙ c.put_item.auto.pkg ∙ c.start.auto.pkg

pub returns : goal.returns
returns c =
    ledger_answer 100 5 (omega arith) c.requires.0 c.start.ensures
    (more c.put_item.ensures
    (more c.put_default.ensures
    (more c.put_override.ensures
    (more c.type_origin.ensures
    (more c.drop_override.ensures (more c.type_origin-2.ensures none))))))
    ∙ argued_last _ _ _ c.requires.1
