use mathlib.Core.Path.{refl, ◌∙◌}
use Rattle.model.proofs.EntryCounts.{relationships_saying}
use Rattle.reading.proofs.EnteredPlaces.{entered_at, entered_all}
use Rattle.reading.proofs.AddingTurns.{none_added, next_fielded, next_added, all_added}
use Rattle.reading.proofs.related.add_all.Goals as goal

pub loop-at-init : goal.loop-at-init
loop-at-init c = (none_added c.requires.all_fielded, refl)

pub add-requires : goal.add-requires
add-requires c =
    let said = relationships_saying c.args.source.now in
    let e = entered_at said c.requires.placed _ c.loop-at-test.true in
    (e.within, next_fielded c.loop-at.invariant.0 e.next e.is)

pub loop-at-preserved : goal.loop-at-preserved
loop-at-preserved c =
    let said = relationships_saying c.args.source.now in
    let e = entered_at said c.requires.placed _ c.loop-at-test.true in
    let so = c.loop-at.invariant in
    (next_added so.0 e.next e.is c.add.ensures, c.add.auto.pkg ∙ so.1)

pub shape_of-pkg : goal.shape_of-pkg
shape_of-pkg c = c.loop-at.invariant.1

pub returns : goal.returns
returns c =
    let said = relationships_saying c.args.source.now in
    all_added c.loop-at.invariant.0
    (entered_all said c.requires.placed _ c.loop-at-test.false)
