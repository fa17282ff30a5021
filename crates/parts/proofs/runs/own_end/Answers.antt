use mathlib.Core.Path.{refl}
use native.Mathlib.Omega.{arith}
use Rattle.parts.proofs.GroupEnds.{ended_alone, ended_own, ended_long}
use Rattle.parts.proofs.runs.own_end.Goals as goal

pub returns-then-tag-eq0 : goal.returns-then-tag-eq0
returns-then-tag-eq0 c = ended_alone _ _ _ c.requires.1 _ c.tag.ensures.1 c.if-tag-eq0.true

pub returns-then-p-gt255 : goal.returns-then-p-gt255
returns-then-p-gt255 c = ended_long _ _ _ c.requires.1 _ c.field-p.ensures.2 c.if-p-gt255.true

pub fold_into-requires : goal.fold_into-requires
fold_into-requires c = (omega arith, refl)

pub returns : goal.returns
returns c = ended_own _ _ _ c.requires.1 _ c.field-p.ensures.2 _ c.group_end.ensures
