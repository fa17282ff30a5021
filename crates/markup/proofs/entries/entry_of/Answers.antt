use Rattle.markup.proofs.EntryTags.{entry_default, entry_override, entry_untyped, entry_related, entry_unrelated}
use Rattle.markup.proofs.entries.entry_of.Goals as goal

pub returns-then-is_same : goal.returns-then-is_same
returns-then-is_same c = entry_default _ _ _ _ _ c.in-Types.is _ c.is_same.ensures c.if-is_same.true _ c.typed.ensures

pub returns-then-is_same-2 : goal.returns-then-is_same-2
returns-then-is_same-2 c =
    entry_override _ _ _ _ _ c.in-Types.is _ c.is_same.ensures c.if-is_same.false _ c.is_same-in-Types.ensures
    c.if-is_same-2.true _ c.typed-then-is_same-2.ensures

pub returns-then-is_same-3 : goal.returns-then-is_same-3
returns-then-is_same-3 c = entry_related _ _ _ _ _ c.in-Relationships.is _ c.is_same-in-Relationships.ensures c.if-is_same-3.true _ c.related.ensures

pub returns-else-is_same-2 : goal.returns-else-is_same-2
returns-else-is_same-2 c = entry_untyped _ _ _ _ _ c.in-Types.is _ c.is_same.ensures c.if-is_same.false _ c.is_same-in-Types.ensures c.if-is_same-2.false

pub returns-else-is_same-3 : goal.returns-else-is_same-3
returns-else-is_same-3 c = entry_unrelated _ _ _ _ _ c.in-Relationships.is _ c.is_same-in-Relationships.ensures c.if-is_same-3.false
