use mathlib.Core.Path.{sym}
use lib.Seq.{length-take-le}
use Rattle.reading.proofs.EnteredFields.{related_sizes}
use Rattle.reading.proofs.ShortEntries.{related_judged, related_missing}
use Rattle.reading.proofs.related.judge_related.Goals as goal

pub slice_bounds-id-end : goal.slice_bounds-id-end
slice_bounds-id-end c = (related_sizes c.related_fields.ensures c.in-Some.is).0

pub slice_bounds-judge_relationship-end : goal.slice_bounds-judge_relationship-end
slice_bounds-judge_relationship-end c = sym (length-take-le _ _ (related_sizes c.related_fields.ensures c.in-Some.is).0)

pub slice_bounds-iri-end : goal.slice_bounds-iri-end
slice_bounds-iri-end c = (related_sizes c.related_fields.ensures c.in-Some.is).1

pub slice_bounds-judge_relationship-end-in-Some : goal.slice_bounds-judge_relationship-end-in-Some
slice_bounds-judge_relationship-end-in-Some c = sym (length-take-le _ _ (related_sizes c.related_fields.ensures c.in-Some.is).1)

pub slice_bounds-target-end : goal.slice_bounds-target-end
slice_bounds-target-end c = (related_sizes c.related_fields.ensures c.in-Some.is).2

pub slice_bounds-judge_relationship-end-in-Some-2 : goal.slice_bounds-judge_relationship-end-in-Some-2
slice_bounds-judge_relationship-end-in-Some-2 c = sym (length-take-le _ _ (related_sizes c.related_fields.ensures c.in-Some.is).2)

pub returns-in-Some : goal.returns-in-Some
returns-in-Some c =
    related_judged c.related_fields.ensures _ c.in-Some.is c.number.ensures c.judge_relationship.result
    c.judge_relationship.ensures

pub returns-in-None : goal.returns-in-None
returns-in-None c = related_missing c.related_fields.ensures _ c.in-None.is _
