use mathlib.Core.Path.{ap, sym, ◌∙◌}
use Rattle.names.specs.Items.{refusal_number}
use Rattle.names.proofs.Suffixes.{told_some}
use Rattle.items.proofs.Naming.{refused_some, strict_refused, strict_reserved, strict_named, named_small, named_slice}
use Rattle.items.proofs.wanted.strict.Goals as goal

pub unwrap-requires : goal.unwrap-requires
unwrap-requires c = told_some _ _ c.refusal.ensures (refused_some _ _ c.take_apart-split.ensures _ c.in_default.is)

pub returns-in_default : goal.returns-in_default
returns-in_default c = strict_refused _ _ c.take_apart-split.ensures _ (sym (ap refusal_number c.unwrap.ensures) ∙ c.refusal.ensures)

pub slice_bounds-is_reserved-end : goal.slice_bounds-is_reserved-end
slice_bounds-is_reserved-end c =
    let take_apart = c.take_apart-split in
    named_slice _ _ take_apart.ensures _ _ c.in-Named.is

pub returns-then-is_reserved : goal.returns-then-is_reserved
returns-then-is_reserved c =
    let take_apart = c.take_apart-split in
    strict_reserved _ _ take_apart.ensures _ _ c.in-Named.is _ c.is_reserved.ensures c.if-is_reserved.true

pub tag_of-requires : goal.tag_of-requires
tag_of-requires c =
    let take_apart = c.take_apart-split in
    named_small _ _ take_apart.ensures _ _ c.in-Named.is

pub returns : goal.returns
returns c =
    let take_apart = c.take_apart-split in
    strict_named _ _ take_apart.ensures _ _ c.in-Named.is _ c.is_reserved.ensures _ c.tag_of.ensures
    c.if-is_reserved.false
