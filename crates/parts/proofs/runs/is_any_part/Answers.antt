use mathlib.Core.Path.{refl}
use native.Mathlib.Omega.{arith}
use Rattle.parts.proofs.GroupRuns.{part_of_long}
use Rattle.parts.proofs.runs.is_any_part.Goals as goal

pub returns-then-p-gt-FOLDED_SIZE : goal.returns-then-p-gt-FOLDED_SIZE
returns-then-p-gt-FOLDED_SIZE c =
    let args = c.args in
    part_of_long args.pkg.now args.p.now (omega arith)

pub fold_into-requires : goal.fold_into-requires
fold_into-requires c = (omega arith, refl)
