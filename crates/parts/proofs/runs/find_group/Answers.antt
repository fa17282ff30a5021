use mathlib.Core.Path.{refl}
use native.Mathlib.Omega.{arith}
use Rattle.contract.proofs.SoughtKeys.{aimed_whole, placed_whole}
use Rattle.parts.proofs.GroupRuns.{grouped}
use Rattle.parts.proofs.GroupEnds.{grouped_whole}
use Rattle.parts.proofs.runs.find_group.Goals as goal

pub seek-place-requires : goal.seek-place-requires
seek-place-requires c = record { shape = c.requires.shape; aimed = aimed_whole _ _ c.requires.holds_folding _ _ _ refl }

pub overflow_add-result : goal.overflow_add-result
overflow_add-result c = omega (arith, c.seek-place.ensures.bounded.within, c.requires.shape.few)

pub returns-then-place : goal.returns-then-place
returns-then-place c =
    let found = placed_whole _ _ c.args.p.now c.requires.holds_folding 0 0 _ _ refl _ _ c.seek-place.ensures in
    grouped_whole _ _ _ _ _ found c.if-place.true c.requires.shape

pub returns : goal.returns
returns c =
    let found = placed_whole _ _ c.args.p.now c.requires.holds_folding 0 0 _ _ refl _ _ c.seek-place.ensures in
    grouped _ _ c.requires.shape _ c.item_count-n.ensures _ _ found.bounded _ c.group_end-to.ensures
