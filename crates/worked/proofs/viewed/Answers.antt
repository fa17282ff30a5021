use native.Mathlib.Omega.{arith}
use mathlib.Core.Path.{ap, ◌∙◌}
use Rattle.output.specs.Answers.{Answer}
use Rattle.contract.specs.Ran.{none, more}
use Rattle.worked.proofs.WorkedList.{ledger_answer}
use Rattle.worked.proofs.MoreLists.{viewed_last}
use Rattle.worked.proofs.viewed.Goals as goal

pub returns : goal.returns
returns c =
    ap (λ (a : Answer). a.output) (ledger_answer 100 3 (omega arith) c.requires c.start.ensures
    (more c.put_item.ensures
    (more c.put_item-2.ensures (more c.put_item-3.ensures (more c.view_item.ensures none)))))
    ∙ viewed_last _
