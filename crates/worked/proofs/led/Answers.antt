use native.Mathlib.Omega.{arith}
use mathlib.Core.Path.{◌∙◌}
use Rattle.contract.specs.Ran.{none, more}
use Rattle.worked.proofs.WorkedList.{ledger_answer, led_last}
use Rattle.worked.proofs.led.Goals as goal

pub shape_of-p : goal.shape_of-p
shape_of-p c =
    c.put_relationship.auto.pkg ∙ c.put_item.auto.pkg ∙ c.put_default.auto.pkg ∙
    c.start.auto.pkg

pub returns : goal.returns
returns c =
    ledger_answer 200 4 (omega arith) c.requires.0 c.start.ensures
    (more c.put_default.ensures
    (more c.put_item.ensures
    (more c.put_relationship.ensures
    (more c.write_types.ensures (more c.resolve_relationship.ensures none)))))
    ∙ led_last _ _ _ c.requires.1
