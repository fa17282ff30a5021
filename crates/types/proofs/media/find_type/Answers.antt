use mathlib.Core.Path.{refl, ap}
use Rattle.parts.proofs.GroupRuns.{name_fits, refused_name, refused_none, refused_part}
use mathlib.Core.Bool.{not}
use Rattle.types.proofs.media.find_type.Goals as goal

pub returns-then-not-is_part_name : goal.returns-then-not-is_part_name
returns-then-not-is_part_name c = refused_name _ _ _ c.is_part_name.ensures (ap not c.if-not-is_part_name.true)

pub fold_into-requires : goal.fold_into-requires
fold_into-requires c = (name_fits _ _ c.is_part_name.ensures (ap not c.if-not-is_part_name.false), refl)

pub returns-then-not-is_part : goal.returns-then-not-is_part
returns-then-not-is_part c =
    refused_part _ _ _ c.is_part_name.ensures (ap not c.if-not-is_part_name.false) _ c.is_part.ensures c.if-not-is_part.true

pub returns : goal.returns
returns c = (
  refused_none _ _ _ c.is_part_name.ensures (ap not c.if-not-is_part_name.false) _ c.is_part.ensures c.if-not-is_part.false,
  c.type_row.ensures,
)
