use Rattle.std.proofs.Common.{arith}
use Rattle.markup.proofs.ValueEnds.{value_unmarked, to_within, value_open, value_some, value_unquotable}
use Rattle.markup.proofs.attributes.value_end.Goals as goal
use Rattle.markup.proofs.attributes.value_end.Goals.{else-to-s-via-then-to-s+else-is_quotable, else-to-s-via-else-to-s}

pub returns-then-not-is_quote_mark : goal.returns-then-not-is_quote_mark
returns-then-not-is_quote_mark c = value_unmarked _ _ _ c.requires c.byte_at-b.ensures _ c.is_quote_mark.ensures c.if-not-is_quote_mark.true

pub slice_bounds-is_quotable-end : goal.slice_bounds-is_quotable-end
slice_bounds-is_quotable-end c =
    let marked = c.if-not-is_quote_mark.false in
    omega (
      arith,
      to_within _ _ _ c.requires c.byte_at-b.ensures _ c.is_quote_mark.ensures marked _
          c.find-to.ensures,
    )

pub returns-then-is_quotable : goal.returns-then-is_quotable
returns-then-is_quotable c =
    let marked = c.if-not-is_quote_mark.false in
    value_some _ _ _ c.requires c.byte_at-b.ensures _ c.is_quote_mark.ensures marked _ c.find-to.ensures _
    c.is_quotable.ensures c.if-to-s.true c.if-is_quotable.true

pub returns : goal.returns
returns c =
    let marked = c.if-not-is_quote_mark.false in
    elim c.else-to-s.branch [
      | else-to-s-via-then-to-s+else-is_quotable w ↦ value_unquotable _ _ _ c.requires c.byte_at-b.ensures _ c.is_quote_mark.ensures marked _
          c.find-to.ensures _ w.is_quotable.ensures w.if-is_quotable.false
      | else-to-s-via-else-to-s w ↦ value_open _ _ _ c.requires c.byte_at-b.ensures _ c.is_quote_mark.ensures marked _ c.find-to.ensures w.if-to-s.false
    ]
