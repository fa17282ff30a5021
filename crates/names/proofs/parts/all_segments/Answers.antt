use mathlib.Core.Path.{sym, ◌∙◌}
use mathlib.Core.List.{List}
use Prim.Native.Nat.{ℕ, ◌≤◌, ◌<◌}
use native.Mathlib.Nat.{le_of_lt}
use native.Mathlib.Omega.{arith}
use lib.ListN.{length, drop_of_length-le}
use Rattle.chars.specs.Bytes.{slash}
use Rattle.chars.specs.Lists.{split, last_byte}
use Rattle.names.specs.Names.{segment}
use Rattle.chars.proofs.Splits.{stretch_le, all_last, all_more, all_not}
use Rattle.names.proofs.PlainBytes.{known_stretch}
use Rattle.names.proofs.parts.all_segments.Goals as goal
use Rattle.names.proofs.parts.all_segments.Goals.{After-find-e}

-- past the search: the stretch from i ends within s
abbrev Found : Type 0
Found = After-find-e

abbrev S : Found → List ℕ
S a = a.args.s.now

ends : (a : Found) → a.find-e.result ≤ length (S a)
ends a = stretch_le slash (S a) a.loop-from.i a.find-e.result a.find-e.ensures a.loop-from.invariant.0

pub returns-then-n-from : goal.returns-then-n-from
unfolding split segment last_byte
returns-then-n-from c = rw (drop_of_length-le c.args.s.now (le_of_lt c.if-n-from.true))

pub slice_bounds-is_segment-end : goal.slice_bounds-is_segment-end
slice_bounds-is_segment-end c = ends c

pub is_segment-ok-requires : goal.is_segment-ok-requires
is_segment-ok-requires c = known_stretch _ _ _ c.requires _ _ _ c.find-e.ensures c.loop-from.invariant.0 c.plain_from.ensures

pub returns-then-e-n : goal.returns-then-e-n
returns-then-e-n c =
    sym (c.loop-from.invariant.1 ∙ all_last slash (S (goal.at.returns-then-e-n c).After-find-e) c.loop-from.i c.find-e.result c.find-e.ensures c.loop-from.invariant.0
    segment c.if-e-n.true (sym c.is_segment-ok.ensures ∙ c.if-ok.true))

pub loop-from-preserved : goal.loop-from-preserved
loop-from-preserved c =
    let l : c.find-e.result < length (S (goal.at.loop-from-preserved c).After-find-e) = omega (arith, ends (goal.at.loop-from-preserved c).After-find-e) in (
      omega arith,
      c.loop-from.invariant.1 ∙ all_more slash (S (goal.at.loop-from-preserved c).After-find-e) c.loop-from.i c.find-e.result c.find-e.ensures
          c.loop-from.invariant.0 segment l (sym c.is_segment-ok.ensures ∙ c.if-ok.true),
    )

pub returns-else-ok : goal.returns-else-ok
returns-else-ok c =
    sym (c.loop-from.invariant.1 ∙ all_not slash (S (goal.at.returns-else-ok c).After-find-e) c.loop-from.i c.find-e.result c.find-e.ensures c.loop-from.invariant.0
    segment (sym c.is_segment-ok.ensures ∙ c.if-ok.false))
