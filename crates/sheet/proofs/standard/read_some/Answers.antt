use Rattle.std.proofs.Common.{refl}
use Rattle.sheet.specs.Passing.{passes_counted}
use Rattle.sheet.proofs.standard.read_some.Goals as goal

pub returns-clause-passes : goal.returns-clause-passes
returns-clause-passes c = passes_counted _ _ _ _ c.count-k.ensures.1 refl
