use native.Mathlib.Omega.{arith}
use mathlib.Core.Path.{◌∙◌}
use Rattle.contract.specs.Ran.{none, more}
use Rattle.worked.proofs.WorkedList.{ledger_answer}
use Rattle.worked.proofs.MoreLists.{totals_of, received_last}
use Rattle.worked.proofs.received.Goals as goal

pub returns : goal.returns
returns c =
    totals_of c.totals.result 1 1 42 (ledger_answer 100 4 (omega arith) c.requires c.start.ensures
    (more c.put_item.ensures
    (more c.read_types.ensures
    (more c.read_types-2.ensures
    (more c.read_relationships.ensures (more c.totals.ensures none)))))
    ∙ received_last _)
