use mathlib.Core.Path.{refl, ap, ◌∙◌}
use Rattle.std.specs.Prelude.{Ok}
use Rattle.relationships.specs.Resolutions.{of_resolution}
use Rattle.relationships.specs.declared.resolving.Resolution.{Resolution}
use Rattle.abi.proofs.Handing.{hands}
use Rattle.abi.proofs.replies.of_led.Goals as goal

pub returns-in-Internal : goal.returns-in-Internal
returns-in-Internal c = λ out. hands _ _ _ _ _ (c.three.ensures ∙ rw c.flag.ensures) refl refl (ap (λ (x : Resolution). of_resolution (Ok x) out) c.in-Internal.is)

pub returns-in-External : goal.returns-in-External
returns-in-External c = λ out. hands _ _ _ _ _ c.three-in-External.ensures refl refl (ap (λ (x : Resolution). of_resolution (Ok x) out) c.in-External.is)
