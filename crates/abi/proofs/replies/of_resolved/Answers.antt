use mathlib.Core.Path.{refl, ap, sym}
use Rattle.pack.specs.Pack.{of_resolved}
use Rattle.abi.proofs.Handing.{hands, handed_as}
use Rattle.abi.proofs.replies.of_resolved.Goals as goal

pub returns-in-Ok : goal.returns-in-Ok
returns-in-Ok c = λ out. hands _ _ _ _ _ c.two.ensures refl refl (ap (λ x. of_resolved x out) c.in-Ok.is)

pub returns-in-Err : goal.returns-in-Err
returns-in-Err c = λ out. handed_as (sym (ap (λ x. of_resolved x out) c.in-Err.is)) (c.of_unwritten.ensures out)
