use mathlib.Core.Path.{refl}
use Rattle.output.proofs.Answering.{refused_on}
use Rattle.reading.proofs.ReadRuns.{none_took, all_took}
use Rattle.reading.proofs.related.take_relationships.Goals as goal

pub returns-in_err-check_all : goal.returns-in_err-check_all
returns-in_err-check_all c = rw (refused_on _ _ c.from_residual.ensures.1) (none_took _ c.in_err-check_all.ensures)

pub add_all-requires : goal.add_all-requires
add_all-requires c =
    record { placed = c.requires.placed.0; all_fielded = c.in_ok-check_all.ensures.fielded refl }

pub returns : goal.returns
returns c = all_took c.in_ok-check_all.ensures c.add_all.ensures
