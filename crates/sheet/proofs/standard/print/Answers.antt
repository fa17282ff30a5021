use Rattle.std.proofs.Common.{refl}
use Rattle.sheet.specs.Passing.{passes_counted}
use Rattle.sheet.proofs.standard.print.Goals as goal

pub returns : goal.returns
returns c = passes_counted _ _ _ _ refl refl
