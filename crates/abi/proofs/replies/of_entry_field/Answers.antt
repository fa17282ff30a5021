use mathlib.Core.Path.{refl, ap, sym}
use Rattle.entries.specs.Promise.{of_entry_field}
use Rattle.abi.proofs.Handing.{hands, handed_as}
use Rattle.abi.proofs.replies.of_entry_field.Goals as goal

pub returns-in-Ok : goal.returns-in-Ok
returns-in-Ok c = λ out. hands _ _ _ _ _ c.two.ensures refl refl (ap (λ x. of_entry_field x out) c.in-Ok.is)

pub returns-in-Err : goal.returns-in-Err
returns-in-Err c = λ out. handed_as (sym (ap (λ x. of_entry_field x out) c.in-Err.is)) (c.of_unwritten.ensures out)
