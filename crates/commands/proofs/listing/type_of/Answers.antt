use mathlib.Core.Path.{refl}
use Rattle.commands.proofs.PartLines.{type_found, type_missing}
use Rattle.commands.proofs.listing.type_of.Goals as goal

pub fold_into-requires : goal.fold_into-requires
fold_into-requires c = (c.requires.1, refl)

pub returns-then-r-count : goal.returns-then-r-count
returns-then-r-count c = search type_found

pub returns : goal.returns
returns c = search type_missing
