use mathlib.Core.Path.{refl, sym, ◌∙◌}
use Prim.Native.Nat.{◌-◌}
use Rattle.chars.proofs.Searches.{every_take_take}
use Rattle.names.specs.PlainBytes.{plain}
use Rattle.names.proofs.PlainBytes.{plain_bracket}
use Rattle.names.proofs.Suffixes.{last_segment_le, item_none, item_whole, item_no_suffix, item_piece, item_plain}
use Rattle.names.proofs.items.take_apart.Goals as goal

pub returns-then-s-plain : goal.returns-then-s-plain
returns-then-s-plain c = c.whole.ensures ∙ sym (item_plain _ (plain_bracket _ _ c.plain_start-plain.ensures c.if-s-plain.true))

pub returns-then-p-eq0 : goal.returns-then-p-eq0
returns-then-p-eq0 c = sym (item_none _ _ c.find_past-p.ensures c.if-p-eq0.true)

pub slice_bounds-byte_at-count : goal.slice_bounds-byte_at-count
slice_bounds-byte_at-count c = last_segment_le _ _ c.find_past-p.ensures

pub slice_bounds-byte_at-start : goal.slice_bounds-byte_at-start
slice_bounds-byte_at-start c = last_segment_le _ _ c.find_past-p.ensures

pub returns-in_default : goal.returns-in_default
returns-in_default c =
    let find_past = c.find_past-p in
    sym (item_no_suffix _ _ find_past.ensures c.if-p-eq0.false _ c.byte_at.ensures c.if-byte_at-eq91.true _
    c.read_suffix-x.ensures c.in_default.is)

pub is_name-requires : goal.is_name-requires
is_name-requires c =
    every_take_take plain c.plain_start-plain.result (c.find_past-p.result - 1) c.args.s.now
    c.plain_start-plain.ensures

pub returns-then-is_name : goal.returns-then-is_name
returns-then-is_name c =
    let find_past = c.find_past-p in
    sym (item_piece _ _ find_past.ensures c.if-p-eq0.false _ c.byte_at.ensures c.if-byte_at-eq91.true _
    c.read_suffix-x.ensures _ _ _ c.in-Piece.is c.is_name.ensures ∙ rw c.if-is_name.true)

pub returns-then-byte_at-eq91 : goal.returns-then-byte_at-eq91
returns-then-byte_at-eq91 c =
    let find_past = c.find_past-p in
    sym (item_piece _ _ find_past.ensures c.if-p-eq0.false _ c.byte_at.ensures c.if-byte_at-eq91.true _
    c.read_suffix-x.ensures _ _ _ c.in-Piece.is c.is_name.ensures ∙ rw c.if-is_name.false)

pub returns : goal.returns
returns c =
    let find_past = c.find_past-p in
    c.whole-2.ensures ∙ sym (item_whole _ _ find_past.ensures c.if-p-eq0.false _ c.byte_at.ensures _ c.if-byte_at-eq91.false refl)
