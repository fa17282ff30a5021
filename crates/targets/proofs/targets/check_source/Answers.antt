use mathlib.Core.Path.{sym, ap}
use Rattle.targets.proofs.Judging.{source_root, source_no, source_reserved, source_passes}
use mathlib.Core.Bool.{not}
use Rattle.targets.proofs.targets.check_source.Goals as goal

pub returns-then-is_root : goal.returns-then-is_root
returns-then-is_root c = sym (source_root _ _ c.is_root.ensures c.if-is_root.true)

pub returns-then-not-is_part_name : goal.returns-then-not-is_part_name
returns-then-not-is_part_name c =
    let is_root_lem = c.is_root in
    sym (source_no _ _ is_root_lem.ensures c.if-is_root.false _ c.is_part_name.ensures (ap not c.if-not-is_part_name.true))

pub returns-then-is_reserved : goal.returns-then-is_reserved
returns-then-is_reserved c =
    let is_root_lem = c.is_root in
    sym (source_reserved _ _ is_root_lem.ensures c.if-is_root.false _ c.is_part_name.ensures (ap not c.if-not-is_part_name.false) _
    c.is_reserved.ensures c.if-is_reserved.true)

pub returns : goal.returns
returns c =
    let is_root_lem = c.is_root in
    sym (source_passes _ _ is_root_lem.ensures c.if-is_root.false _ c.is_part_name.ensures (ap not c.if-not-is_part_name.false) _
    c.is_reserved.ensures c.if-is_reserved.false)
