use mathlib.Core.Path.{refl, ap}
use Rattle.std.specs.Prelude.{Ok}
use Rattle.types.specs.TypeOrigins.{of_type_origin}
use Rattle.types.specs.declared.origin.TypeOrigin.{TypeOrigin}
use Rattle.abi.proofs.Handing.{hands}
use Rattle.abi.proofs.replies.of_origin.Goals as goal

pub returns-in-Override : goal.returns-in-Override
returns-in-Override c = λ out. hands _ _ _ _ _ c.two.ensures refl refl (ap (λ (x : TypeOrigin). of_type_origin (Ok x) out) c.in-Override.is)

pub returns-in-Default : goal.returns-in-Default
returns-in-Default c = λ out. hands _ _ _ _ _ c.two-in-Default.ensures refl refl (ap (λ (x : TypeOrigin). of_type_origin (Ok x) out) c.in-Default.is)

pub returns-in-Neither : goal.returns-in-Neither
returns-in-Neither c = λ out. hands _ _ _ _ _ c.two-in-Neither.ensures refl refl (ap (λ (x : TypeOrigin). of_type_origin (Ok x) out) c.in-Neither.is)
