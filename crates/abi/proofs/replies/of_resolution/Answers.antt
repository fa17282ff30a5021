use mathlib.Core.Path.{ap, sym}
use Rattle.relationships.specs.Resolutions.{of_resolution}
use Rattle.abi.proofs.Handing.{handed_as}
use Rattle.abi.proofs.replies.of_resolution.Goals as goal

pub returns-in-Ok : goal.returns-in-Ok
returns-in-Ok c = λ out. handed_as (sym (ap (λ x. of_resolution x out) c.in-Ok.is)) (c.of_led.ensures out)

pub returns-in-Err : goal.returns-in-Err
returns-in-Err c = λ out. handed_as (sym (ap (λ x. of_resolution x out) c.in-Err.is)) (c.of_unwritten.ensures out)
