use Rattle.markup.proofs.EntryTags.{root_unnamed, root_miscounted, root_is}
use Rattle.markup.proofs.entries.is_root.Goals as goal

pub returns-then-not-is_root_name : goal.returns-then-not-is_root_name
returns-then-not-is_root_name c = root_unnamed _ _ _ _ _ _ c.is_root_name.ensures c.if-not-is_root_name.true

pub returns-then-count_own-ne1 : goal.returns-then-count_own-ne1
returns-then-count_own-ne1 c = root_miscounted _ _ _ _ _ _ c.is_root_name.ensures c.if-not-is_root_name.false _ c.count_own.ensures c.if-count_own-ne1.true

pub returns : goal.returns
returns c =
    root_is _ _ _ _ _ _ c.is_root_name.ensures c.if-not-is_root_name.false _ c.count_own.ensures c.if-count_own-ne1.false
    _ c.find_value.ensures _ c.is_namespace.ensures
