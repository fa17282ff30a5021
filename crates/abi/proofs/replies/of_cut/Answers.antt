use mathlib.Core.Path.{refl, ap, sym}
use Rattle.contract.specs.Answers.{of_cut}
use Rattle.abi.proofs.Handing.{hands, handed_as}
use Rattle.abi.proofs.replies.of_cut.Goals as goal

pub returns-in-Ok : goal.returns-in-Ok
returns-in-Ok c = hands _ _ _ _ _ c.two.ensures refl refl (ap of_cut c.in-Ok.is)

pub returns-in-Err : goal.returns-in-Err
returns-in-Err c = handed_as (sym (ap of_cut c.in-Err.is)) (c.of_refusal.ensures _)
