use mathlib.Core.Path.{refl}
use Rattle.contract.proofs.SoughtKeys.{aimed_whole, placed_whole}
use Rattle.parts.proofs.GroupEnds.{behind_low, behind_high, behind_between}
use Rattle.parts.proofs.runs.end_behind.Goals as goal

pub seek-place-requires : goal.seek-place-requires
seek-place-requires c = record { shape = c.requires.shape.0; aimed = aimed_whole _ _ c.requires.holds_folding _ _ _ refl }

pub returns-then-r-e : goal.returns-then-r-e
returns-then-r-e c =
    let found = placed_whole _ _ c.args.p.now c.requires.holds_folding 0 65534 _ _ refl _ _ c.seek-place.ensures in
    behind_low _ _ _ c.args.p.now c.requires.shape.1 _ _ found.bounded c.if-r-e.true

pub returns-then-n-r : goal.returns-then-n-r
returns-then-n-r c =
    let found = placed_whole _ _ c.args.p.now c.requires.holds_folding 0 65534 _ _ refl _ _ c.seek-place.ensures in
    behind_high _ _ _ c.args.p.now c.requires.shape.1 _ _ found.bounded c.if-n-r.true

pub returns : goal.returns
returns c =
    let found = placed_whole _ _ c.args.p.now c.requires.holds_folding 0 65534 _ _ refl _ _ c.seek-place.ensures in
    behind_between _ _ _ c.args.p.now c.requires.shape.1 _ _ found.bounded c.if-r-e.false c.if-n-r.false
