use native.Mathlib.Omega.{arith}
use mathlib.Core.Path.{◌∙◌}
use Rattle.contract.specs.Ran.{none, more}
use Rattle.worked.proofs.WorkedList.{ledger_answer}
use Rattle.worked.proofs.MoreLists.{linked_last}
use Rattle.worked.proofs.linked.Goals as goal

pub shape_of-p : goal.shape_of-p
shape_of-p c =
    c.drop_relationship.auto.pkg ∙ c.put_relationship-2.auto.pkg ∙
    c.put_relationship.auto.pkg ∙ c.start.auto.pkg

pub returns : goal.returns
returns c =
    ledger_answer 100 3 (omega arith) c.requires.0 c.start.ensures
    (more c.put_relationship.ensures
    (more c.put_relationship-2.ensures
    (more c.drop_relationship.ensures (more c.write_relationships.ensures none))))
    ∙ linked_last _ _ c.requires.1
